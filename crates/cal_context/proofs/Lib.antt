pub mod CallerLemmas
pub mod LinkLemmas
pub mod ListLemmas
