pub mod Ends
pub mod Rows
pub mod Several
pub mod Utf8Pieces
