pub mod Homes
pub mod Turns
pub mod Seats
pub mod Closing
