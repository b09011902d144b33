pub mod Banks
pub mod Calls
pub mod Fitting
pub mod Gate
pub mod Layout
pub mod Lists
