pub mod Joins
pub mod Given
pub mod Orders
pub mod Counting
