pub mod Tone
pub mod Matrix
pub mod Dot
