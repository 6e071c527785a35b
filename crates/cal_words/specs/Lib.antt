pub mod Words
pub mod Homes
pub mod Records
pub mod Nodes
pub mod Back
pub mod Shapes
