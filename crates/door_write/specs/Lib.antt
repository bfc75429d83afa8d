pub mod Outside
pub mod Numbered
