pub mod Dimmer
pub mod Code
