pub mod Trees
pub mod Tree
pub mod TreeFalls
pub mod Entries
