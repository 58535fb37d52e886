pub mod Switch
pub mod Events
pub mod Respond
pub mod Code
