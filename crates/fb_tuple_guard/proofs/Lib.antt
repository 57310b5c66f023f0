pub mod Least
pub mod Found
pub mod Composites
pub mod Same
pub mod Held
