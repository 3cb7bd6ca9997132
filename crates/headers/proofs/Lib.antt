pub mod Fields
pub mod Checksums
pub mod Made
pub mod Outcomes
