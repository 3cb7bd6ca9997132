pub mod Sounds
pub mod Dues
pub mod Laws
pub mod Asks
