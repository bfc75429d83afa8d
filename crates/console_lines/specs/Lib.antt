pub mod Console
pub mod Alike
