pub mod Strings
pub mod Json
pub mod Writing
pub mod Choosing
