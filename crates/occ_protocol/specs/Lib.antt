pub mod Carrying
pub mod Matching
pub mod Wanting
pub mod Lines
pub mod Messages
pub mod inside
