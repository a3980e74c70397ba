pub mod Handed
pub mod Parts
pub mod Numbers
