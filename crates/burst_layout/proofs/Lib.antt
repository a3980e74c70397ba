pub mod Lines
pub mod EndToEnd
pub mod Bytes
