pub mod Access
pub mod Rows
