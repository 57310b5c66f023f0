pub mod Lent
pub mod Reached
pub mod Gathered
pub mod Reading
pub mod Indexed
