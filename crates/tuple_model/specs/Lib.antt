pub mod Composite
pub mod Tuples
pub mod Seen
pub mod Given
pub mod UniqueTuples
pub mod Samples
