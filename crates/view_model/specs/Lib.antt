pub mod Window
pub mod View
pub mod Scan
pub mod Names
pub mod Stands
pub mod Samples
