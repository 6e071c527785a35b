pub mod HoldingLemmas
pub mod CountingLemmas
pub mod RowLemmas
