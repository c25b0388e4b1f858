pub mod Answer
pub mod Tray
pub mod Whole
