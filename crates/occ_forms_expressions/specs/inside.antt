-- what no contract of a public call rests on
pub mod Brackets
pub mod Parts
pub mod Tails
