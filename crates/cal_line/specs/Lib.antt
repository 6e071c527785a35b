pub mod Lines
pub mod Tokens
pub mod Escapes
pub mod Fields
pub mod WrittenFields
pub mod Spans
pub mod Steps
pub mod FirstFault
