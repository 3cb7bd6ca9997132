pub mod Exchange
pub mod Refusal
