pub mod Post
pub mod Promises
pub mod Code
