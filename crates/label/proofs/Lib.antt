pub mod ByteFour
pub mod Spaces
pub mod Reading
pub mod Read
pub mod Choice
