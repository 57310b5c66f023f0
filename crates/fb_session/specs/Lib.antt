pub mod Taken
pub mod Written
pub mod WaitingLines
pub mod Replies
pub mod Asks
pub mod Terms
pub mod Sessions
