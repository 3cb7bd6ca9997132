pub mod Kind
pub mod Definition
pub mod Demand3
pub mod Onward
pub mod Fakes
pub mod Naked
