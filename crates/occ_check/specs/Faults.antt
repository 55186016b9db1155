-- What is reported at the lines of a unit before its shape is looked at.
use Rattle.std.specs.Prelude.{ℕ, cond, List, [], ◌∷◌, Option, Some, None}
use Rattle.std.specs.List.{flat_map}
use Rattle.std.specs.Str.{bytes_eq}
use Rattle.occ_base.specs.Errors.{error_at}
use Rattle.occ_base.specs.declared.code.Code.{Code}
use Rattle.occ_base.specs.declared.code.Code.TheVariants.{G1, G2, G3}
use Rattle.occ_base.specs.declared.diag.Diag.{Diag}
use Rattle.occ_check.specs.declared.used.Used.{Used}
use Rattle.occ_check.specs.declared.used.Used.TheVariants as how
use Rattle.occ_check.specs.declared.used.UsedUnit.{UsedUnit}
use Rattle.occ_project.specs.declared.expanded.ExpandedBody.{ExpandedBody}
use Rattle.occ_project.specs.declared.expanded.ExpandedBody.TheVariants as body
use Rattle.occ_project.specs.declared.expanded.ExpandedLine.{ExpandedLine}

-- how the unit of that name stands: one that is not among these is absent
abbrev pub standing : List UsedUnit → List ℕ → Used
standing [] unit = how.Absent
standing (u ∷ us) unit = cond (bytes_eq u.unit unit) u.used (standing us unit)

-- what is wrong with a use of a unit that stands so
abbrev pub use_code : Used → Option Code
use_code how.Absent = Some G1
use_code how.Circular = Some G2
use_code how.Faulty = Some G3
use_code (how.Clean interface) = None

-- at the line of the use, with the name of the used unit
abbrev pub reported_use : ExpandedLine → List ℕ → Option Code → List Diag
reported_use l unit None = []
reported_use l unit (Some code) = error_at l.file l.line code (Some unit) ∷ []

abbrev pub use_faults : List UsedUnit → ExpandedLine → List ℕ → List Diag
use_faults used l unit = reported_use l unit (use_code (standing used unit))

-- the fault that the line has instead of a form, or those of the units that it uses
abbrev pub body_faults : List UsedUnit → ExpandedLine → ExpandedBody → List Diag
body_faults used l (body.Form form) = []
body_faults used l (body.Uses units) = flat_map (use_faults used l) units
body_faults used l (body.Fault code) = error_at l.file l.line code None ∷ []

abbrev pub own_faults : List UsedUnit → ExpandedLine → List Diag
own_faults used l = body_faults used l l.body

abbrev pub line_faults : List UsedUnit → List ExpandedLine → List Diag
line_faults used = flat_map (own_faults used)
