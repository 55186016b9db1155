-- Definitions for bodies alone: how parts are kept to be asked for.
pub mod Runs
pub mod PlaceSets
pub mod Paths
pub mod Chains
pub mod Selectors
