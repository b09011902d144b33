pub mod Borders
pub mod Mends
pub mod Counts
pub mod Cases
pub mod Searches
