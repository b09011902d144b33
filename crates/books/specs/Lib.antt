pub mod Books
pub mod Kinds
pub mod Places
pub mod States
