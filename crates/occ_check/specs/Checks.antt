-- What the rules give for a unit of a project: by recursion along the units that it rests on, from the texts alone.
use Rattle.std.specs.Prelude.{ℕ, List, [], map, Option, Some, None}
use Rattle.occ_base.specs.declared.diag.Diag.{Diag}
use Rattle.occ_check.specs.Diagnostics.{diags_of, interface_of}
use Rattle.occ_check.specs.Input.{Input}
use Rattle.occ_check.specs.declared.used.Used.{Used}
use Rattle.occ_check.specs.declared.used.Used.TheVariants as how
use Rattle.occ_check.specs.declared.used.UsedUnit.{UsedUnit}
use Rattle.occ_project.specs.declared.reads.Read.{Read}
use Rattle.occ_check.specs.declared.checked.Checked.{Checked}
use Rattle.occ_types.specs.declared.interface.Interface.{Interface}
use Rattle.occ_project_units.specs.Along.{along}
use Rattle.occ_project_units.specs.Indices.{standing_of}
use Rattle.occ_project_units.specs.Units.{unit_reads, used_units}
use Rattle.occ_project_units.specs.declared.standing.Standing.{Standing}
use Rattle.occ_project_units.specs.declared.standing.Standing.TheVariants as standing

-- how a unit stands to one that uses it, where this is its interface
abbrev pub used_as : Standing → Option Interface → Used
used_as standing.Absent interface = how.Absent
used_as standing.Circular interface = how.Circular
used_as standing.Below None = how.Faulty
used_as standing.Below (Some interface) = how.Clean interface

-- v, which u uses, where f reports of each unit what the rules give for it
abbrev pub used_unit : List Read → List ℕ → (List ℕ → Checked) → List ℕ → UsedUnit
used_unit files u f v = record { unit = v; used = used_as (standing_of files u v) (f v).interface }

-- what the check of u looks at
abbrev pub input_with : List Read → List ℕ → (List ℕ → Checked) → Input
input_with files u f = record { unit = u; reads = unit_reads files u; used = map (used_unit files u f) (used_units files u) }

abbrev pub check_of : Input → Checked
check_of i = record { diags = diags_of i; interface = interface_of i }

-- for u, from what they give for others
abbrev pub check_step : List Read → List ℕ → (List ℕ → Checked) → Checked
check_step files u f = check_of (input_with files u f)

unfoldable pub checked : List Read → List ℕ → Checked
checked files = along files (check_step files) (record { diags = []; interface = None })

abbrev pub diags : List Read → List ℕ → List Diag
diags files u = (checked files u).diags

abbrev pub interface : List Read → List ℕ → Option Interface
interface files u = (checked files u).interface

-- what the check of u looks at in this project
abbrev pub input : List Read → List ℕ → Input
input files u = input_with files u (checked files)
