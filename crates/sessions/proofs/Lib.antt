pub mod Theorem
pub mod Onward
pub mod Fakes
pub mod Naked
