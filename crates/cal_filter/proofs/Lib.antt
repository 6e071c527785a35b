mod Sums
mod KindLemmas
mod Last
mod Seeking
mod Finding
mod Passing
pub mod Zips
pub mod OperandLemmas
mod Holding
pub mod Growing
mod SmallNumbers
mod Applying
mod ResultLemmas
pub mod ReadyLemmas
mod FlatOnly
mod InternedLemmas
mod MemoLemmas
pub mod LatestLemmas
mod NamedLemmas
mod RowLemmas
mod Telling
