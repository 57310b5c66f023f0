pub mod Disk
pub mod Examples
pub mod Journal
pub mod Record
