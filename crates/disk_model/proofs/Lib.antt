pub mod Calls
pub mod Existence
pub mod Journals
pub mod Moments
pub mod Readings
pub mod Records
