pub mod Orders
pub mod OrderLaws
pub mod Rising
pub mod Lists
pub mod Samples
