pub mod Joint
pub mod Repair
