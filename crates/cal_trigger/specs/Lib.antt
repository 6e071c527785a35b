pub mod Deciding
pub mod Named
pub mod Watching
