pub mod Copies
pub mod Workers
