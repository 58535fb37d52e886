pub mod Orders
pub mod Code
