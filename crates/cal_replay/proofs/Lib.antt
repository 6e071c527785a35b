pub mod Takings
pub mod OwnLines
pub mod SharedLines
pub mod NotedLines
pub mod Starting
pub mod ManyLines
mod ShowingLemmas
mod ReadingOn
mod ShownLines
mod ShownAsNoted
mod ToldLines
