pub mod Hired
pub mod Collected
pub mod Gathering
pub mod Quiet
