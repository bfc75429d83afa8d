pub mod Box
pub mod Boxed
pub mod Alike
