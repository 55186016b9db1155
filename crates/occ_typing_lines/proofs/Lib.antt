pub mod Scopes
pub mod Trees
mod Judging
mod Searching
mod Decimals
