pub mod Asks
pub mod Acts
pub mod Triples
