pub mod Taken
pub mod OneChannel
pub mod KeyNodes
