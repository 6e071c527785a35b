mod BookHands
mod FreshChannels
mod KeptChannels
pub mod FlushedLines
pub mod KeptLines
pub mod KeptPlaces
pub mod SteppedRunners
pub mod StartedRunners
