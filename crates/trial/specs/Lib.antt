pub mod Orders
pub mod TrialLaws
