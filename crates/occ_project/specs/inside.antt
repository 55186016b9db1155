-- what no contract of a public call rests on
pub mod Making
pub mod Naming
