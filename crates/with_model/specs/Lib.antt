pub mod Chain
pub mod Samples
