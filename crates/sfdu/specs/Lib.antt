pub mod Row
pub mod Scan
pub mod Forest
pub mod Check
pub mod Find
pub mod Search
pub mod Private
