pub mod Herald
pub mod Promises
pub mod Code
