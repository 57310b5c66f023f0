pub mod Below
pub mod Ends
pub mod Own
