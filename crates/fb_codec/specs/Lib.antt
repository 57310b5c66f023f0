pub mod Answers
pub mod Entries
pub mod Tags
pub mod Texts
