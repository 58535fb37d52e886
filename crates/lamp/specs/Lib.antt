pub mod Lamp
pub mod Promises
pub mod Code
