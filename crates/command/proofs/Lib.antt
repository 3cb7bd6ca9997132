pub mod Carrieds
pub mod Judged
