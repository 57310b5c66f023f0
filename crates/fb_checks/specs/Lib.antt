pub mod Held
pub mod Decided
pub mod Checks
pub mod Shipped
pub mod Samples
