pub mod Words
pub mod Tasks
pub mod Faults
pub mod Answers
pub mod Deciding
