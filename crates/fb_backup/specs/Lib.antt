pub mod Backups
pub mod Comparing
pub mod Copies
pub mod Targets
