pub mod Parts
pub mod EachBit
pub mod Histories
pub mod Fixed
pub mod Fields
pub mod First
pub mod Frozen
pub mod Lanes
