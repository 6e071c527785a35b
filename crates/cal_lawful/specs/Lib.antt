pub mod Broken
pub mod Checking
pub mod Profiles
