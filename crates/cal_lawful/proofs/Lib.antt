pub mod BrokenLemmas
pub mod RowLemmas
pub mod OrderLemmas
pub mod MergeLemmas
pub mod WatchLemmas
pub mod TellLemmas
pub mod WalkLemmas
pub mod FirstLemmas
