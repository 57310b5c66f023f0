pub mod Members
pub mod Rows
pub mod TupleLists
pub mod SeenRows
pub mod Entries
pub mod Reading
pub mod Barred
