pub mod Sending
pub mod Ran
