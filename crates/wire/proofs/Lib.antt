pub mod Parts
pub mod Ranges
pub mod Tests
pub mod Lengths
pub mod Bytes
