pub mod Lookup
pub mod Inserts
pub mod Replacing
pub mod Least
