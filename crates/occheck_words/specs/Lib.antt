pub mod Line
pub mod Modes
