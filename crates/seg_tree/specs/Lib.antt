pub mod Chunks
pub mod Nodes
pub mod Ranks
pub mod Ids
pub mod Built
pub mod Indexes
