-- what no contract of a public call rests on
pub mod Bringing
pub mod Codes
pub mod Followed
pub mod Named
pub mod Placed
pub mod Shown
