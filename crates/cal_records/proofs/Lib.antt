pub mod ListOrder
pub mod ForkLemmas
pub mod RisingLemmas
pub mod LikelyLemmas
pub mod Ranking
pub mod GlobalLemmas
pub mod TakingLemmas
pub mod QueryLemmas
