pub mod Shifting
pub mod Ticking
