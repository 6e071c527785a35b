pub mod NextItem
pub mod HiredSenders
pub mod Chosen
pub mod SentRuns
pub mod GatheredFrom
pub mod LeftTables
pub mod CountedRuns
pub mod CollectedRuns
