pub mod Deciding
mod Watching
