pub mod Keys
pub mod Zips
pub mod OneMeaning
pub mod Counted
pub mod Holding
pub mod MeantRows
pub mod Fronts
pub mod Together
