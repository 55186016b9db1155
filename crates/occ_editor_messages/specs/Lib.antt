pub mod Sent
pub mod Talks
pub mod inside
