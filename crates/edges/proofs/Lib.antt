pub mod Pressing
