pub mod Version
pub mod Head
pub mod Length
pub mod Opened
pub mod Label
pub mod Choice
