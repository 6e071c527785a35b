pub mod Taking
pub mod Growing
