pub mod Early
pub mod Answers
pub mod Names
pub mod Attributes
pub mod Parts
pub mod Ranges
