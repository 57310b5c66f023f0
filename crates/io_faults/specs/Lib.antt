pub mod Examples
pub mod Faults
