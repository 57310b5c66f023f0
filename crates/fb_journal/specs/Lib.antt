pub mod Frames
pub mod Gates
pub mod Journals
pub mod Laying
pub mod Marks
pub mod Readings
pub mod Starts
pub mod Windows
