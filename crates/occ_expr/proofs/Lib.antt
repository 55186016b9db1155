pub mod Walking
pub mod Roots
pub mod Decimals
pub mod Fitting
pub mod Alone
pub mod Passing
pub mod Named
