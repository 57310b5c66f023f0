pub mod Sight
pub mod Turning
pub mod Glancing
pub mod Seating
