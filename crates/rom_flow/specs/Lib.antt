pub mod State
pub mod Flow
pub mod Due
pub mod Receiver
pub mod Fresh
pub mod Sound
pub mod Ask
pub mod Gives
