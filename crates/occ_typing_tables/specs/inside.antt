-- what no contract of a public call rests on
pub mod Own
pub mod Plain
