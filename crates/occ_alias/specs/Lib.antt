pub mod LineCalls
pub mod AbbreviationRule
pub mod Grades
pub mod Repeated
pub mod Reporting
-- what no contract of a public call rests on
pub mod inside
pub use Rattle.occ_usage_lines.specs.Forms
pub use Rattle.occ_usage_lines.specs.Naming
pub use Rattle.occ_usage_lines.specs.Effects
pub use Rattle.occ_usage_lines.specs.Entering
