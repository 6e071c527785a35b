pub mod Falling
pub mod Streamings
pub mod Keepings
pub mod Plainness
pub mod Layouts
pub mod Stops
pub mod FoldedWholes
