pub mod Announcing
