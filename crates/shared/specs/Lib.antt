pub mod MoveLists
pub mod Moves
pub mod SharedBanks
pub mod SharedRuns
pub mod SharedStates
