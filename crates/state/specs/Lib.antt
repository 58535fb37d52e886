pub mod Kinds
pub mod State
pub mod Keeping
pub mod Code
