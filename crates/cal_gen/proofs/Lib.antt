mod Turns
pub mod BeginLines
pub mod Behind
pub mod GenDigits
pub mod GenLines
pub mod GenRuns
mod Kept
mod ThreadTurns
mod Read
