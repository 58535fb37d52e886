pub mod Registers
pub mod Code
