pub mod Targets
pub mod Trees
pub mod inside
