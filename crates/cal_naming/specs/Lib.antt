pub mod Naming
pub mod Told
pub mod Settled
pub mod Keeping
pub mod Replies
pub mod Workers
