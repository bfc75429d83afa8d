pub mod Player
pub mod Sheet
