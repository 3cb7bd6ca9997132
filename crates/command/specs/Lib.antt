pub mod Payload
pub mod Version
pub mod Check
