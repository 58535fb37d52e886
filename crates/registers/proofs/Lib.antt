pub mod Finding
pub mod Laws
