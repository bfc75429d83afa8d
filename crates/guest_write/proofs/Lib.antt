pub mod Tested
pub mod Bridge
pub mod Entry
