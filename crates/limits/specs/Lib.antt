pub mod AltimeterLimits
pub mod BurstLimits
pub mod Limits
