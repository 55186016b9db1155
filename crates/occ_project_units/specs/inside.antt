-- what no contract of a public call rests on
pub mod Keeping
pub mod Skimming
