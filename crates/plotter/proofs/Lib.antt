pub mod Found
pub mod Going
pub mod Windows
pub mod Held
pub mod Drawn
pub mod Drawing
pub mod Judging
pub mod Starting
