pub mod Seeking
pub mod Finds
pub mod Inserting
pub mod Replaces
pub mod Writing
pub mod Leasts
