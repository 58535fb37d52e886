pub mod Count
pub mod Guessing
pub mod Laws
pub mod Run
pub mod Secrecy
pub mod Step
pub mod Witness
