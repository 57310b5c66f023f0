pub mod Views
pub mod Seat
pub mod Board
pub mod Plays
pub mod Calls
pub mod Notes
pub mod Patience
