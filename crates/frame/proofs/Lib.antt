pub mod Frames
pub mod RoundTrips
