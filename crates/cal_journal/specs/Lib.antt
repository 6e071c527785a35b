pub mod Kinds
pub mod Words
pub mod Reading
pub mod Pending
pub mod Both
pub mod Printing
pub mod Marks
pub mod ReadBack
