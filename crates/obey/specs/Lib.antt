pub mod Obey
pub mod Code
