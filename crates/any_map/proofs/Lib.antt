pub mod Laws
pub mod Blends
pub mod Rows
