pub mod Tallies
pub mod Holding
pub mod Lasts
pub mod Singles
pub mod Standing
pub mod Places
pub mod NoRows
pub mod Looked
