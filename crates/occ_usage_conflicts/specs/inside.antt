pub mod Accumulating
pub mod Beginning
pub mod Numbering
pub mod Linking
pub mod Spreading
pub mod Presences
