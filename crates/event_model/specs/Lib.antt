pub mod World
pub mod Event
pub mod Runs
pub mod Sound
pub mod Samples
