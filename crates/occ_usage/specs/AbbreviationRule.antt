-- What the abbreviation rule reports of lines: at each line what it reports of what the line itself uses and calls.
use Rattle.std.specs.Prelude.{List}
use Rattle.occ_alias.specs.AbbreviationRule.{line_faults}
use Rattle.occ_alias.specs.Grades.{graver}
use Rattle.occ_base.specs.declared.diag.Diag.{Diag}
use Rattle.occ_typing.specs.declared.tree.TypedLine.{TypedLine}
use Rattle.occ_usage.specs.Walk.{Rule, unit_reported}

abbrev pub abbreviation_at : Rule
abbreviation_at a = line_faults a.line.form a.env a.line.place

-- of the lines of a unit: of an error and a check that differ in nothing else the error alone
abbrev pub abbreviation_faults : List TypedLine → List Diag
abbreviation_faults ls = graver (unit_reported abbreviation_at ls)
