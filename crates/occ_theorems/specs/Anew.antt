-- What the rules give for a unit, said over the whole project: by its expansion there, by how the units stand there that its lines use,
-- and by what these show. The step of this unit takes no input of a check.
use Rattle.std.specs.Prelude.{◌≡◌, ◌++◌, ℕ, List, map, Option, Some, None, if◌then◌else◌}
use Rattle.std.specs.List.{Contains}
use Rattle.occ_base.specs.Errors.{error_at, has_error}
use Rattle.occ_base.specs.declared.code.Code.TheVariants.{G2}
use Rattle.occ_base.specs.declared.diag.Diag.{Diag}
use Rattle.occ_check.specs.Checks.{interface, used_as}
use Rattle.occ_check.specs.Faults.{line_faults}
use Rattle.occ_check.specs.Language.{following, lines_judged}
use Rattle.occ_check.specs.Order.{in_order}
use Rattle.occ_check.specs.declared.language.Judgement.{Judgement}
use Rattle.occ_check.specs.declared.used.UsedUnit.{UsedUnit}
use Rattle.occ_project.specs.Expansion.{Expansion, expansion}
use Rattle.occ_project.specs.Uses.{used_in}
use Rattle.occ_project.specs.declared.expanded.ExpandedBody.TheVariants as body
use Rattle.occ_project.specs.declared.expanded.ExpandedLine.{ExpandedLine}
use Rattle.occ_project.specs.declared.reads.Read.{Read}
use Rattle.occ_project_units.specs.Indices.{standing_of}
use Rattle.occ_project_units.specs.Units.{IsCircular}
use Rattle.occ_types.specs.declared.interface.Interface.{Interface}

-- v, as it stands to u in the project
abbrev pub standing_there : List Read → List ℕ → List ℕ → UsedUnit
standing_there files u v = record { unit = v; used = used_as (standing_of files u v) (interface files v) }

-- the units that its lines use
abbrev pub used_there : List Read → List ℕ → List UsedUnit
used_there files u = map (standing_there files u) (used_in (expansion files u).lines)

-- faults of files and lines, and of the units that are used, alone if there are any; else what the language says
abbrev pub judged_by : Expansion → List UsedUnit → Judgement
judged_by e used = following (e.faults ++ line_faults used e.lines) (lines_judged e.lines used)

abbrev pub judged_anew : List Read → List ℕ → Judgement
judged_anew files u = judged_by (expansion files u) (used_there files u)

-- in order, each once
abbrev pub diags_anew : List Read → List ℕ → List Diag
diags_anew files u = in_order (judged_anew files u).faults

-- none of a unit that has an error
abbrev pub interface_anew : List Read → List ℕ → Option Interface
interface_anew files u = if has_error (diags_anew files u) then None else (judged_anew files u).interface

-- the line is a `#USE` of the unit, alone or by a library
abbrev pub IsUseOf : ExpandedLine → List ℕ → Type 0
IsUseOf l v = (units : List (List ℕ)) × (l.body ≡ body.Uses units) × Contains units v

-- the G2 of a line that uses this unit, at the file and line of its directive
abbrev pub circle_at : ExpandedLine → List ℕ → Diag
circle_at l v = error_at l.file l.line G2 (Some v)

-- a diagnostic of u is the G2 of a line of u that uses v, which it uses in a circle
pub record IsOfCircle (files : List Read) (u v : List ℕ) (d : Diag) : Type 0 where
  pub line : ExpandedLine
  pub stands : Contains (expansion files u).lines line
  pub uses : IsUseOf line v
  pub circle : IsCircular files u v
  pub itself : d ≡ circle_at line v
