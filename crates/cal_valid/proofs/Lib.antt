pub mod Binds
pub mod Values
pub mod Counting
pub mod Declared
pub mod States
pub mod Steps
pub mod Runnable
