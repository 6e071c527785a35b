pub mod Notes
pub mod Running
pub mod Together
