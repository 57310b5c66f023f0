pub mod Ranges
pub mod Sides
