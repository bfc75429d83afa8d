pub mod Entries
pub mod Checked
pub mod Cells
pub mod Demand3
pub mod Rows
