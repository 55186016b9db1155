-- what no contract of a public call rests on
pub mod Phases
pub mod Sending
