pub mod Grew
pub mod Descent
pub mod Roots
