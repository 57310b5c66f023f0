pub mod Seeking
pub mod OneNext
