pub mod Backup
pub mod Samples
