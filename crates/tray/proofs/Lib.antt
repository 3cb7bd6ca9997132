pub mod Entries
pub mod Each
pub mod Figures
