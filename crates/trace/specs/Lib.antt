pub mod Behind
pub mod Tracing
