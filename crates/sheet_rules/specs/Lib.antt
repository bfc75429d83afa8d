pub mod Check
pub mod Tables
pub mod Demand3
pub mod Rows
