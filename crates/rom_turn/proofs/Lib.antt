pub mod Xors
pub mod Codes
pub mod Ones
