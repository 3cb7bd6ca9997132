pub mod ProvedSet
