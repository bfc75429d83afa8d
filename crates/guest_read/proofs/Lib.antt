pub mod Bridge
pub mod Entry
