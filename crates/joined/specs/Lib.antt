pub mod Joined
pub mod Joining
pub mod Rolls
pub mod Private
