pub mod Sessions
pub mod Output
pub mod inside
