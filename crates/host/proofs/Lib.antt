pub mod Turns
pub mod Calls
pub mod Reached
pub mod Cuts
