pub mod Growing
pub mod Lines
pub mod Members
pub mod Said
pub mod Values
