pub mod Rule
pub mod Register
pub mod Crc
