pub mod Draws
pub mod Generated
pub mod GeneratedScript
pub mod Texts
pub mod Places
pub mod Steps
