pub mod Hearing
pub mod Stops
