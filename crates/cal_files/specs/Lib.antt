pub mod Counts
pub mod Holding
pub mod OpenerChange
pub mod Files
pub mod FilesEnds
