pub mod Crossing
pub mod Numbers
pub mod Offs
pub mod Shows
pub mod Sources
