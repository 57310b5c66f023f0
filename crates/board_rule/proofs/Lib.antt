pub mod Codes
mod Sums
pub mod Tried
mod Keeps
mod Turns
pub mod Commits
mod Holding
mod Cores
mod Mailing
mod Reading
mod Posting
mod Moving
mod Splits
mod Joins
mod Lifetime
