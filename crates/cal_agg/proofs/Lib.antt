mod Merging
pub mod Ends
mod FigureLemmas
mod Lists
mod Sums
