pub mod Calls
pub mod Turns
pub mod Reached
pub mod Histories
pub mod Faith
