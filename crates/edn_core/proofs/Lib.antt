pub mod Stacks
pub mod Leading
pub mod Landings
pub mod Openings
pub mod Texts
pub mod Answering
