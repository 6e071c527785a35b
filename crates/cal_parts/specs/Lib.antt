pub mod Kernels
pub mod Parts
pub mod PartLists
pub mod Readings
pub mod Counters
pub mod Shown
