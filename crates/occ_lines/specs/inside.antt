-- what no contract of a public call rests on
pub mod Alike
pub mod Scan
pub mod Walk
