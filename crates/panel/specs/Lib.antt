pub mod Panel
pub mod Code
