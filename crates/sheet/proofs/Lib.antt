pub mod Taken
pub mod Shown
