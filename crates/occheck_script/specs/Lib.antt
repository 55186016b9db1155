pub mod Devices
pub mod Settling
pub mod Machine
pub mod Output
pub mod Status
pub mod inside
