pub mod Hands
pub mod Kept
pub mod Runners
