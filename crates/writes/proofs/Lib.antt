pub mod Bytes
pub mod Factory
pub mod Order
pub mod Writing
