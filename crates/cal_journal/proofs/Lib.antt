pub mod Decimals
pub mod Lines
pub mod JournalRuns
pub mod PrintedWords
pub mod PrintedRuns
pub mod Behind
