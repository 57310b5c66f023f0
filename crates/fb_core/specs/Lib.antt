pub mod Cores
pub mod Worlds
