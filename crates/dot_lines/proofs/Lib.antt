pub mod Threshold
pub mod AtOnce
pub mod Bytes
pub mod Lines
