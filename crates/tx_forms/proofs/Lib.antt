pub mod FormMembers
pub mod ShapeRules
pub mod Parsing
