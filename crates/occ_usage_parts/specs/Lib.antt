pub mod Places
pub mod Parts
pub mod Selecting
pub mod Keeping
-- what no contract of a public call rests on
pub mod inside
