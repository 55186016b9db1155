pub mod Varying
pub mod Places
pub mod Plain
pub mod Runs
pub mod Sums
