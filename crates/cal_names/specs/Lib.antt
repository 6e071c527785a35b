pub mod Declarations
pub mod Kept
pub mod Answers
