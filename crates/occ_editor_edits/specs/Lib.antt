pub mod Calls
pub mod Changes
pub mod Documents
pub mod Frames
pub mod Messages
pub mod Places
pub mod Texts
pub mod Uris
