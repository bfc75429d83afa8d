pub mod Masks
pub mod Bridge
