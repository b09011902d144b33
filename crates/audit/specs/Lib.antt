pub mod Marks
pub mod Passes
pub mod Runs
pub mod Audits
