pub mod Words
pub mod Listing
pub mod Answers
pub mod Deciding
