pub mod Readings
pub mod Workers
pub mod Steps
pub mod Flushing
pub mod Showing
pub mod Channels
