pub mod SnapshotModel
pub mod Refills
pub mod InAvet
pub mod Facts
