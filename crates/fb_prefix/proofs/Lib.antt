pub mod Agreeing
pub mod Fronts
pub mod Contents
pub mod Law
pub mod Least
pub mod Telling
