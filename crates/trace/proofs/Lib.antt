pub mod OneDot
pub mod Tracing
