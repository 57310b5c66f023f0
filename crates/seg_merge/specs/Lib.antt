pub mod Merged
pub mod Plans
pub mod Pieces
pub mod Merges
pub mod Four
pub mod Standing
