pub mod Anew
pub mod Edits
pub mod Exports
pub mod Functions
pub mod Orders
pub mod Reached
pub mod Reports
pub mod Using
