pub mod Names
pub mod View
pub mod Items
pub mod Answers
