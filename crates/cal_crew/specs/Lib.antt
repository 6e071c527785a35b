pub mod Ran
pub mod Shifts
