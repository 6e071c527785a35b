pub mod Ended
pub mod Threads
