pub mod Headers
pub mod Ids
pub mod Fakes
pub mod Refusal
