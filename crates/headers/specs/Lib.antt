pub mod ProductHeader
pub mod ImageHeader
pub mod Made
