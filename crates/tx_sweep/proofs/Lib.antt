pub mod Members
pub mod ClosedSets
pub mod Sweeping
pub mod Visiting
pub mod Forms
