pub mod Neighbours
pub mod Ids
pub mod Walking
