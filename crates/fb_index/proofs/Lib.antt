pub mod Ranging
pub mod Merging
pub mod Reading
pub mod Walking
