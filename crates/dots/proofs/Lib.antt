pub mod Tables
pub mod Squares
pub mod Curve
pub mod Levels
pub mod Tile
