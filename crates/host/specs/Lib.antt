pub mod Refusal
pub mod Session
pub mod Cuts
