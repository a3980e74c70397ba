pub mod Beams
pub mod Modes
