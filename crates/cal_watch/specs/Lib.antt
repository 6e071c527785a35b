pub mod Named
pub mod Asking
pub mod Knowing
