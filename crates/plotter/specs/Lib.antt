pub mod Strip
pub mod Private
pub mod Rows
