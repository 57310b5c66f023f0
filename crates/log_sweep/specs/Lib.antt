pub mod Alone
pub mod Groups
pub mod Sweeps
