pub mod Outcomes
pub mod Settling
pub mod Operators
pub mod Wanting
pub mod Parts
pub mod Representation
-- what no contract of a public call rests on
pub mod inside
