pub mod Stores
pub mod Copies
pub mod Flashes
pub mod Compares
