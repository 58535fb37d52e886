pub mod Verbs
pub mod Promises
