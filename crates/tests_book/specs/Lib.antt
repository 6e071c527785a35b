pub mod Gifts
pub mod Workers
