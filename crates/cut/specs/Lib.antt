pub mod Descent
pub mod Spine
pub mod Split
