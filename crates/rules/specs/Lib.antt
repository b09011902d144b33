pub mod Rules
pub mod Laws
pub mod Cases
pub mod Held
pub mod Levels
