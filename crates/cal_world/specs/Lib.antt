pub mod Turns
pub mod Events
pub mod Sorting
pub mod Schedule
pub mod Progress
