pub mod Placing
pub mod Publishing
pub mod Rooms
pub mod Standing
pub mod inside
