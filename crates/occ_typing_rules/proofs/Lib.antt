pub mod Folds
pub mod Knowing
pub mod OpenPlacing
pub mod Fronts
pub mod Counting
pub mod Numbers
