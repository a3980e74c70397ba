pub mod Fields
pub mod Numbers
pub mod Exact
pub mod Nearest
pub mod Private
