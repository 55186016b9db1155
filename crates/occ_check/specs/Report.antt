-- The report of a project, from nothing but its texts.
use Rattle.std.specs.Prelude.{◌≡◌, ◌⊎◌, ℕ, Bool, ◌&&◌, List, [], ◌∷◌, map, Some}
use Rattle.std.specs.List.{filter}
use Rattle.std.specs.Option.{is_some}
use Rattle.occ_base.specs.FileName.{is_unit}
use Rattle.occ_base.specs.declared.code.Code.{Code}
use Rattle.occ_base.specs.declared.diag.Diag.{Diag}
use Rattle.occ_project.specs.declared.reads.Read.{Read}
use Rattle.occ_check.specs.Checks.{diags}

abbrev pub is_open_unit : Read → Bool
is_open_unit file = is_unit file.name && is_some file.source

-- in order of name, as the files of a project stand
abbrev pub open_units : List Read → List (List ℕ)
open_units files = map (λ file. file.name) (filter is_open_unit files)

-- each open unit with its diagnostics in order
abbrev pub whole_report : List Read → List (List ℕ × List Diag)
whole_report files = map (λ u. (u, diags files u)) (open_units files)

-- a diagnostic of that code with that name stands among these
abbrev pub AreReporting : List Diag → Code → List ℕ → Type 0
AreReporting [] code name = ⊥
AreReporting (d ∷ ds) code name = ((d.code ≡ code) × (d.name ≡ Some name)) ⊎ AreReporting ds code name
