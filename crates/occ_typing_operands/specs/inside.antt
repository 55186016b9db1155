pub mod Sums
pub mod Varying
