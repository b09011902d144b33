pub mod Steps
pub mod Laws
pub mod Cases
pub mod Climbs
pub mod Leaving
pub mod Window
pub mod Walks
