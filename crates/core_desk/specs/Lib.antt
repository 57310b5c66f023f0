pub mod Alone
pub mod States
