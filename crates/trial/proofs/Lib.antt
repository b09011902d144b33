pub mod Once
pub mod Trials
