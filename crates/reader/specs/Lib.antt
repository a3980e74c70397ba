pub mod Rows
pub mod Read
pub mod Demand2
pub mod Demand3
