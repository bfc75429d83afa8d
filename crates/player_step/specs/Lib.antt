pub mod Ask
pub mod Player
