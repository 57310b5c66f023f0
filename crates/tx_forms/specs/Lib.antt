pub mod Words
pub mod Parts
pub mod Shaped
pub mod Stops
