pub mod Scans
pub mod Entities
pub mod Refs
pub mod Attributes
pub mod Runs
pub mod Limits
pub mod Known
pub mod Making
mod OwnNames
mod Named
