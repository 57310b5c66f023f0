pub mod Fronts
pub mod Gaps
pub mod Judged
pub mod Names
pub mod Numerals
pub mod Strings
