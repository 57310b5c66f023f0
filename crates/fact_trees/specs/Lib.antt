pub mod Facts
pub mod Trees
