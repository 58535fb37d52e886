pub mod Laws
pub mod Quick
