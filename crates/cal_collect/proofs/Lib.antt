pub mod Sums
pub mod Came
pub mod Steps
