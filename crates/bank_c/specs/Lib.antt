pub mod Laws
pub mod Plain
pub mod Replies
pub mod Serves
