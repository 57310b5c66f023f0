pub mod Faults
pub mod Trees
pub mod Stores
pub mod Loads
pub mod Finding
pub mod Counts
pub mod Keeping
