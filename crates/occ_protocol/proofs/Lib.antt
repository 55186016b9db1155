pub mod Carried
pub mod Meeting
pub mod Primitives
