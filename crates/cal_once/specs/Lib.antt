pub mod Layout
pub mod Views
pub mod Sound
pub mod Rule
pub mod Steps
pub mod Puts
pub mod Seats
