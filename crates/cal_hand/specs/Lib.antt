pub mod Nodes
pub mod Hands
pub mod Boards
pub mod Changes
pub mod Lasts
pub mod Rooms
