pub mod Rows
pub mod Serving
