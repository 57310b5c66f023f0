pub mod Described
pub mod Parts
pub mod Standing
pub mod Tables
pub mod Change
pub mod Numbered
pub mod Naming
