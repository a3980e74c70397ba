pub mod Beside
pub mod Moved
pub mod Sixteenths
pub mod Joining
pub mod Rolls
pub mod Writing
