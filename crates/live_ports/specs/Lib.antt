pub mod Late
pub mod Pieces
