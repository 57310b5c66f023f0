pub mod Seeing
pub mod Meeting
pub mod Ending
pub mod Going
pub mod Log
pub mod NextAttribute
pub mod Stepping
pub mod FirstRow
