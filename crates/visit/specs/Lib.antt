pub mod Compared
pub mod Replay
pub mod Figures
pub mod Held
pub mod Played
