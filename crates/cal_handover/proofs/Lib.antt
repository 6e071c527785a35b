mod OnePlace
pub mod FromPlace
mod ClosedFrom
mod LeftBooks
