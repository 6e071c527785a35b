pub mod Numbering
pub mod Climbing
pub mod Descending
