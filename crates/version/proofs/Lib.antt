pub mod Digits
pub mod Parts
pub mod Ranking
pub mod Ranks
pub mod Orders
