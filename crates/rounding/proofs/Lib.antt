pub mod Multiples
pub mod Floats
pub mod Patterns
pub mod Law
pub mod Steps
