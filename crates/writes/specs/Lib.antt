pub mod Writes
pub mod Code
