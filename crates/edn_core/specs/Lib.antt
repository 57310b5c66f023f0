pub mod Answers
pub mod Frames
pub mod Fronts
