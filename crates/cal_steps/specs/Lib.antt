pub mod Sights
pub mod Turning
pub mod NodePlaces
pub mod Newest
pub mod Behind
pub mod Rows
pub mod Grouping
