pub mod Timers
pub mod Views
pub mod Names
pub mod Differing
pub mod Sameness
pub mod Depending
pub mod Writing
