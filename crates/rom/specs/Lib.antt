pub mod Session
pub mod Awaits
