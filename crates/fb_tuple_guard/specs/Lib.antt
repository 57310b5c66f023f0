pub mod Sharing
pub mod Sought
