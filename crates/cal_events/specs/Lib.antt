pub mod Worlds
pub mod Nodes
pub mod Effects
pub mod Keeping
