pub mod NewEntities
pub mod Noting
pub mod KnownValues
pub mod Collecting
pub mod Replacing
pub mod Ways
pub mod Folds
pub mod Joined
pub mod Recordings
mod PieceByPiece
