pub mod Form
pub mod Recording
pub mod Figures
pub mod Left
