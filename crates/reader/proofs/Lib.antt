pub mod Found
pub mod Rows
pub mod Demand2
pub mod Filling
pub mod Demand3
pub mod NextRow
