pub mod Runs
pub mod FirstSeats
pub mod Hired
