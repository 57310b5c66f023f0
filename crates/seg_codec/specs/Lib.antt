pub mod Trees
pub mod IdPlaces
pub mod InFile
pub mod Wanted
pub mod Answers
