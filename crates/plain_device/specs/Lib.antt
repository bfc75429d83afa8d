pub mod Device
pub mod Bytes
pub mod ReadOnly
