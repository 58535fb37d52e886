pub mod Laws
pub mod Laying
