-- What a check looks at, what the rules give for units from nothing but the texts, and the report of that, passed on to those who
-- run a board.
pub use Rattle.occ_check.specs.Checks.{diags, input}
pub use Rattle.occ_check.specs.Input.{Input}
pub use Rattle.occ_check.specs.Report.{open_units, whole_report}
