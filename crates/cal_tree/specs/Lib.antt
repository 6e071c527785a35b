pub mod Paths
pub mod Seats
pub mod Children
pub mod Snapshots
