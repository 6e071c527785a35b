pub mod Runs
pub mod Counting
