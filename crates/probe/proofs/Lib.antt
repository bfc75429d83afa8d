pub mod One
pub mod Lowest
pub mod Rows
