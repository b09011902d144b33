pub mod Decades
pub mod Desks
