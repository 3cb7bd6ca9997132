pub mod DataEnds
pub mod Checks
pub mod Ready
pub mod Executions
