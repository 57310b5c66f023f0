pub mod Walks
pub mod Ends
pub mod Knowing
pub mod Logs
pub mod Steps
pub mod Attributes
pub mod Firsts
