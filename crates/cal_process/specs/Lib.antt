pub mod Operations
pub mod Boards
pub mod Rooms
pub mod Replicas
pub mod Takings
