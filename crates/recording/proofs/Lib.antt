pub mod Faults
pub mod Entries
pub mod Parts
pub mod Runs
pub mod Files
pub mod Figures
