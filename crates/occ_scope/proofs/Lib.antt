pub mod Numbers
pub mod Stacked
pub mod Leaving
pub mod Folded
pub mod Begun
pub mod Alike
pub mod Taken
