pub mod Datoms
pub mod Table
pub mod Naming
pub mod Selecting
