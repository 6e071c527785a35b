pub mod Places
pub mod Steps
pub mod Whole
pub mod Ending
pub mod Sending
