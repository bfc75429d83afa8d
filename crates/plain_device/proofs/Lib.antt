pub mod Bridge
pub mod ReadOnly
pub mod One
pub mod Rows
pub mod Entry
