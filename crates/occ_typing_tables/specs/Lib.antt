pub mod Terms
pub mod Merging
pub mod Extents
pub mod Decorating
pub mod Measuring
pub mod Segments
pub mod Dimensions
pub mod inside
