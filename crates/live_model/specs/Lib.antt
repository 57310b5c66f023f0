pub mod Lines
pub mod Readings
pub mod Unreadable
pub mod Answers
