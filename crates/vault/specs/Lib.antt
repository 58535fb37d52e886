pub mod Guesses
pub mod Job
pub mod Machine
pub mod Product
pub mod Promises
pub mod Vault
pub mod Code
