pub mod Kept
pub mod Named
pub mod Paths
pub mod Refused
pub mod Searched
pub mod Slashes
