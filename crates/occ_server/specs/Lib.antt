pub mod Counts
pub mod Held
pub mod Receipts
pub mod Snapshots
