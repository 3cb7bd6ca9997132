pub mod Id
pub mod IdLaws
pub mod Product
pub mod Slot
pub mod Refusal
pub mod Fakes
