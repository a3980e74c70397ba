pub mod Shape
pub mod Check
pub mod Read
pub mod Jump
pub mod From
pub mod Rows
