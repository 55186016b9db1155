pub mod Filling
pub mod Judging
pub mod Own
pub mod Plain
