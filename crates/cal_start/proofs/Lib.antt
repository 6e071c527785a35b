mod PlacedSeats
mod ManyBooks
mod ManyRunners
mod NewHands
mod OneHired
pub mod ScriptLimits
mod StartedRuns
