pub mod Users
pub mod Alterations
pub mod Additions
pub mod Changes
pub mod Own
