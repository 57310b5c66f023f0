pub mod Entries
pub mod Rising
pub mod Seats
