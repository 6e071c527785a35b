pub mod Groups
pub mod Declared
pub mod Coarser
pub mod Answers
pub mod StandIns
pub mod TableRows
