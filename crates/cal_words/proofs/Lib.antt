pub mod Bytes
pub mod Decoded
pub mod Given
