-- What the language says of a unit none of whose lines has a fault. All else of a check asks it by `lines_judged` alone,
-- whatever the language is.
use Rattle.std.specs.Prelude.{ℕ, List, [], ◌∷◌, ◌++◌, Some, None}
use Rattle.std.specs.List.{flat_map}
use Rattle.occ_usage.specs.AbbreviationRule.{abbreviation_faults}
use Rattle.occ_base.specs.declared.diag.Diag.{Diag}
use Rattle.occ_check.specs.declared.language.Judgement.{Judgement}
use Rattle.occ_check.specs.declared.used.Used.{Used}
use Rattle.occ_check.specs.declared.used.Used.TheVariants as how
use Rattle.occ_check.specs.declared.used.UsedUnit.{UsedUnit}
use Rattle.occ_check.specs.Exports.{interface_in}
use Rattle.occ_project.specs.declared.expanded.ExpandedLine.{ExpandedLine}
use Rattle.occ_tree.specs.Faults.{shape_faults}
use Rattle.occ_tree.specs.Forest.{nested}
use Rattle.occ_usage.specs.Typing.{Import, TypedLine, type_faults, typed_unit}
use Rattle.occ_usage.specs.FunctionRule.{function_faults}
use Rattle.occ_usage.specs.Lines.{after_unit}
use Rattle.occ_usage.specs.ParallelRule.{parallel_faults}

-- these alone, if there are any, else what comes later
abbrev pub following : List Diag → Judgement → Judgement
following [] later = later
following (d ∷ ds) later = record { faults = d ∷ ds; interface = None }

-- what a unit shows that is used so
abbrev pub shown : List ℕ → Used → List Import
shown unit (how.Clean interface) = record { unit = unit; interface = interface } ∷ []
shown unit how.Absent = []
shown unit how.Circular = []
shown unit how.Faulty = []

abbrev pub shown_by : UsedUnit → List Import
shown_by u = shown u.unit u.used

-- what the used units show, which come into scope where a line uses them
abbrev pub imports : List UsedUnit → List Import
imports = flat_map shown_by

-- of uses: of parallel components, of functions, and of what abbreviations and calls name
abbrev pub use_faults : List TypedLine → List Diag
use_faults ls = (parallel_faults ls ++ function_faults ls) ++ abbreviation_faults ls

-- of the typed lines of a unit
abbrev pub uses_judged : List TypedLine → Judgement
uses_judged ls = record { faults = use_faults ls; interface = Some (interface_in (after_unit ls) ls) }

-- of names and types; else of uses
abbrev pub lines_typed : List ExpandedLine → List Import → Judgement
lines_typed ls shows = following (type_faults shows (nested ls)) (uses_judged (typed_unit shows (nested ls)))

-- of the lines of a unit that uses these: first what is wrong with their shape, else what they mean
unfoldable pub lines_judged : List ExpandedLine → List UsedUnit → Judgement
lines_judged ls used = following (shape_faults ls) (lines_typed ls (imports used))
