pub mod Threads
pub mod Lines
pub mod Hiring
