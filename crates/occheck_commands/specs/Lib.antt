pub mod Lines
pub mod Ended
pub mod Script
pub mod Says
pub mod Left
pub mod inside
