pub mod Pieces
pub mod Seeks
pub mod InLeaves
pub mod InTrees
pub mod Making
pub mod Growing
pub mod Rows
pub mod Indexes
