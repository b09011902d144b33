pub mod Entering
pub mod Finding
pub mod Handing
pub mod Parting
pub mod Views
