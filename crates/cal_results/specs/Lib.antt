pub mod Tracing
