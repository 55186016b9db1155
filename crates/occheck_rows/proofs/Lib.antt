pub mod Finding
pub mod Counting
