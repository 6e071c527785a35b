pub mod Records
pub mod Told
pub mod Kept
pub mod Forks
pub mod Ranks
pub mod Likely
pub mod Globals
