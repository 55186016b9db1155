pub mod Depth
pub mod Marks
pub mod Reading
pub mod Spelling
pub mod TypeEnds
pub mod inside
