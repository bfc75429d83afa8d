pub mod Ask
pub mod Player
pub mod Events
