pub mod Index
pub mod Jump
pub mod Private
