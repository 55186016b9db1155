pub mod Components
pub mod Kinds
pub mod ParallelRule
pub mod Distinct
pub mod Bodies
pub mod Samples
-- what no contract of a public call rests on, but that of `list_of`
pub mod inside
