pub mod Elements
pub mod Repeating
pub mod Sameness
pub mod Writing
