pub mod Bytes
pub mod Length
pub mod Line
pub mod Part
pub mod Range
pub mod Unit
