pub mod Many
pub mod Shares
