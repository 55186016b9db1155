pub mod Reads
pub mod Entries
pub mod Expansion
pub mod Uses
pub mod Locations
pub mod Samples
pub mod inside
