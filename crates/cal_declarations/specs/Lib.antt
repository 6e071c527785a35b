pub mod Layout
pub mod Reading
pub mod Counts
pub mod Reader
