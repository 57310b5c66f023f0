pub mod Cutting
pub mod OneReading
pub mod Words
