pub mod Differing
pub mod Reading
pub mod Walking
pub mod Declaring
