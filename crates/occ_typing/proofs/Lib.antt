pub mod Walking
pub mod whole
