pub mod Tray
pub mod Entry
pub mod Figures
