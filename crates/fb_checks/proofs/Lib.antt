pub mod Deciding
pub mod Anys
pub mod Having
pub mod Swapping
pub mod Guards
