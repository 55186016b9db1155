-- what no contract of a public call rests on
pub mod Seen
pub mod Going
pub mod Begun
