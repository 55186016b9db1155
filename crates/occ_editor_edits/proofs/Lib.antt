pub mod Heads
pub mod Noted
pub mod Starts
pub mod Uris
