pub mod Row31
pub mod Hold
