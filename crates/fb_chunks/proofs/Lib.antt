pub mod AtNode
pub mod Joined
pub mod Links
