pub mod Agreeing
pub mod Causes
pub mod Greatness
pub mod Joining
pub mod Laws
pub mod Numbers
pub mod Reading
pub mod Trees
