pub mod JoinLemmas
pub mod WholeLemmas
pub mod HistoryLemmas
