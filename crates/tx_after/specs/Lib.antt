pub mod After
pub mod Triples
pub mod Places
pub mod Promises
pub mod Parts
pub mod Said
