pub mod Disks
pub mod Logs
pub mod Records
