pub mod Text
pub mod Rank
pub mod Order
pub mod Decimal
