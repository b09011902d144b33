pub mod Books
pub mod Errands
pub mod Lookups
