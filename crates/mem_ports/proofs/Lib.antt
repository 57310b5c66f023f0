pub mod Handing
pub mod Readings
pub mod StepLists
pub mod Placing
pub mod Replays
pub mod Pasts
pub mod Left
