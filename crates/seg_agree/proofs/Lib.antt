pub mod Counting
pub mod Descending
pub mod Entries
pub mod Searching
pub mod Trees
pub mod Walking
