pub mod RisingInstants
pub mod TsOfNumbers
pub mod Reading
pub mod Naming
pub mod Holding
