pub mod Registers
pub mod Class
pub mod Map
