pub mod Store
pub mod Copy
pub mod Flash
pub mod Compare
pub mod Memories
