pub mod Chunks
pub mod Tails
pub mod Tree
pub mod TreeFalls
