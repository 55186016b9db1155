-- what no contract of a public call rests on
pub mod Lines
-- what no contract of a public call rests on
pub mod Classes
pub mod Details
pub mod Received
pub mod Words
