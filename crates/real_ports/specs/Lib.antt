pub mod AnyDiskLaws
pub mod AnyDisks
pub mod Nodes
