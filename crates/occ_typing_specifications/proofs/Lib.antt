pub mod Both
pub mod Named
