pub mod Ends
pub mod Messages
pub mod Passes
pub mod Rule
