pub mod Orders
pub mod Scanned
pub mod Naming
pub mod Answered
pub mod Pulled
pub mod Trying
pub mod Tupled
