pub mod Chosen
pub mod Substitute
pub mod Serving
