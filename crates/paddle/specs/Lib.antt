pub mod Paddle
pub mod Promises
pub mod Code
