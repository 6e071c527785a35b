pub mod Meanings
pub mod PartSums
