pub mod State
pub mod Flow
pub mod Due
pub mod Device
pub mod Fresh
pub mod Sound
pub mod Ask
pub mod Gives
