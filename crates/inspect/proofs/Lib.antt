pub mod Missing
pub mod Exactness
