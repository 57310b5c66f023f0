pub mod Sides
pub mod AtNode
pub mod Rising
pub mod Lookups
