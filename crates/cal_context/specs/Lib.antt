pub mod Lists
pub mod Tree
pub mod Children
pub mod Snapshots
pub mod Taking
pub mod Links
pub mod LinkHash
