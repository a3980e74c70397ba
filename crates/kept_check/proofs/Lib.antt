pub mod Borne
pub mod Exact
pub mod SameBytes
