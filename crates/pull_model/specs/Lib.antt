pub mod Patterns
pub mod Reading
pub mod Found
pub mod Made
pub mod Tree
pub mod Pull
pub mod Measures
pub mod Samples
