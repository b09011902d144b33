pub mod Descends
pub mod Halving
pub mod Spines
pub mod Splitting
