pub mod Joins
pub mod Shared
