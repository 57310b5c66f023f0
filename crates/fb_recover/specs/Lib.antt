pub mod Faults
pub mod Finding
pub mod Judging
pub mod Logging
pub mod Basing
pub mod Openings
pub mod Joining
