pub mod Asked
pub mod Marks
pub mod Recorded
