pub mod Asking
pub mod Cases
pub mod Faults
pub mod Laws
pub mod Meaning
pub mod Refusals
pub mod Rules
pub mod Runs
