pub mod Digits
pub mod Unpadded
pub mod ReadBack
pub mod Spelling
pub mod InFront
