pub mod Stops
pub mod One
pub mod Rows
