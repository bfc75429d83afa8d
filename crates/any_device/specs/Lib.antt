pub mod Class
pub mod Device
pub mod Kinds
pub mod First
pub mod Locks
pub mod Lanes
