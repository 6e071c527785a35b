pub mod ContextRows
pub mod Appended
pub mod Columns
pub mod Keys
