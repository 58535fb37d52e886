pub mod Reach
pub mod Promises
