pub mod Keepings
pub mod Listing
pub mod Meetings
pub mod Performing
pub mod Starting
