pub mod Filtering
pub mod SlotLemmas
pub mod LimitLemmas
pub mod StandingLemmas
pub mod PathLemmas
pub mod TableReplies
pub mod AskingLemmas
pub mod ContextLemmas
