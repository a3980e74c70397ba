pub mod Walking
pub mod WalkLoop
pub mod WalkReads
pub mod Finding
pub mod Alike
