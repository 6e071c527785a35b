pub mod Lists
pub mod EntryLemmas
pub mod KindLemmas
pub mod Sums
pub mod Numbers
pub mod Results
pub mod GroupLemmas
pub mod RecordLemmas
