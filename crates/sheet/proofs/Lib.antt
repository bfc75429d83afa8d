pub mod First
pub mod Masks
pub mod Parts
