pub mod Payloads
pub mod Checksums
