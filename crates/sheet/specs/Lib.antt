pub mod Sheet
pub mod Reads
