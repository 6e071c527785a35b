pub mod LawfulRuns
pub mod RunThreads
