pub mod Reading
pub mod Samples
