pub mod Ascii
pub mod Hex
pub mod Table
pub mod Read
pub mod Exactly
pub mod Examples
