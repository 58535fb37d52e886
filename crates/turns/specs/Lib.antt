pub mod Turns
pub mod Code
