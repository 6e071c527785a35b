pub mod EscapeLemmas
mod LineLemmas
pub mod PlaceLemmas
pub mod PlacingLemmas
pub mod AfterLemmas
pub mod StreamLemmas
pub mod BuiltInLemmas
mod DescribeLemmas
mod MemoLemmas
mod KeptLemmas
mod RecordLemmas
mod InterningLemmas
mod WholeLemmas
mod MeasureLemmas
