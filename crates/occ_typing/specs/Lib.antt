pub mod Places
pub mod Samples
pub mod Units
pub mod TypedLines
pub mod Typed
pub mod inside
pub mod Rounds
pub mod Known
pub mod WholeTrees
pub mod Whole
-- what is passed on
pub mod Forms
pub mod FormVariants
pub mod BlockVariants
