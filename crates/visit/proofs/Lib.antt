pub mod Holding
pub mod Playing
pub mod Replays
pub mod Figures
