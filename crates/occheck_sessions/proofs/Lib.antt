pub mod Appended
pub mod Crossing
pub mod Edits
pub mod Going
pub mod Readers
pub mod Sources
pub mod Told
pub mod Written
