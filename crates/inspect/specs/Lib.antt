pub mod Image
pub mod Product
pub mod Laws
