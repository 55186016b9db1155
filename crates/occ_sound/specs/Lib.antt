pub mod Agreeing
pub mod Covering
pub mod Safe
pub mod Units
pub mod Racing
