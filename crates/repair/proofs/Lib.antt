pub mod Becoming
pub mod Joining
pub mod Mending
pub mod Pairs
pub mod Repairing
pub mod Tops
