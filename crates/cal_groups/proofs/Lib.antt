pub mod Appending
pub mod Cells
pub mod ColumnLemmas
pub mod RowLemmas
pub mod TableLemmas
