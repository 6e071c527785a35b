pub mod Finding
pub mod Reached
