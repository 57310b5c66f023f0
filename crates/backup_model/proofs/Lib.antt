pub mod CopiedLogs
pub mod Plans
pub mod SameEntries
pub mod Existence
