pub mod Session
pub mod History
