-- what no contract of a public call rests on
pub mod Children
pub mod Elders
pub mod Frames
