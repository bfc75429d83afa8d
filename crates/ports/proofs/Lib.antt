pub mod Widths
pub mod Data
