pub mod Underscores
pub mod Joined
pub mod Optional
pub mod Refused
pub mod OneLess
