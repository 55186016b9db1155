pub mod Graph
pub mod Along
pub mod Sources
pub mod Adding
pub mod inside
