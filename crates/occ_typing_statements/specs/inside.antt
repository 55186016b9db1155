-- what no contract of a public call rests on
pub mod Few
pub mod Given
