pub mod Judge
pub mod Promises
pub mod Code
