pub mod Scaled
pub mod Patterns
pub mod Cases
pub mod Rounded
pub mod Mantissas
pub mod Exact
pub mod Nearest
pub mod Front
