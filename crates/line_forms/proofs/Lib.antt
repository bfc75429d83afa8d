pub mod Digits
pub mod Rows
pub mod Forms
pub mod Exactly
