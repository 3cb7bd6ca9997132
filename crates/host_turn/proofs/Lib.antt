pub mod Ones
pub mod Payloads
pub mod Answers
