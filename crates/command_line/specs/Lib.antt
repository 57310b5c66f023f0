pub mod Words
pub mod Samples
pub mod Views
pub mod ByClap
