pub mod Faults
pub mod Told
pub mod Change
pub mod InMemory
pub mod Played
pub mod Standard
pub mod ReadEnds
