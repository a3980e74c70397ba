pub mod Check
pub mod SameBytes
pub mod Private
