pub mod Gestures
