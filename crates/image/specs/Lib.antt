pub mod Header
pub mod Rule
pub mod Valid
