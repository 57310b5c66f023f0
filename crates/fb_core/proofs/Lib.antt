pub mod Histories
pub mod Commits
