pub mod Sounds
pub mod Laws
pub mod Answers
pub mod Asks
pub mod Figures
