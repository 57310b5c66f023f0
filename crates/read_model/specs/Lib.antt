pub mod Points
pub mod Finding
pub mod Names
pub mod Given
pub mod Components
pub mod Samples
