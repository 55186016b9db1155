pub mod Nearest
pub mod inside
pub mod Visible
pub mod Lookup
pub mod Elements
