pub mod Handing
pub mod Places
pub mod Closing
