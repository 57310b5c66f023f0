pub mod Indexes
pub mod Newest
