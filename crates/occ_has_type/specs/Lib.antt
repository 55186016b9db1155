pub mod Trees
pub mod Free
pub mod Values
pub mod Types
