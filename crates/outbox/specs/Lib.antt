pub mod Outbox
pub mod Code
