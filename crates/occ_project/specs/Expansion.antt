-- The expansion of a unit: what the first 65,535 of its entries give.
use Rattle.std.specs.Prelude.{ℕ, List, [], ◌∷◌, ◌++◌, take, drop, not, Option, Some, None}
use Rattle.std.specs.List.{find, flat_map}
use Rattle.std.specs.Option.{is_some}
use Rattle.occ_base.specs.declared.code.Code.{Code}
use Rattle.occ_base.specs.declared.code.Code.TheVariants as code
use Rattle.occ_base.specs.declared.diag.Diag.{Diag}
use Rattle.occ_base.specs.Errors.{error_at}
use Rattle.occ_base.specs.Firsts.{first_indices}
use Rattle.occ_forms.specs.declared.source.SourceLine.{SourceLine}
use Rattle.occ_project.specs.declared.entry.ExpansionEntry.{ExpansionEntry}
use Rattle.occ_project.specs.declared.entry.Held.{Held}
use Rattle.occ_project.specs.declared.entry.Held.TheVariants.{Line, Library, Include}
use Rattle.occ_project.specs.declared.expanded.ExpandedBody.TheVariants as body
use Rattle.occ_project.specs.declared.expanded.ExpandedLine.{ExpandedLine}
use Rattle.occ_project.specs.declared.reads.Read.{Read}
use Rattle.occ_project.specs.Reads.{member, open_lines}
use Rattle.occ_project.specs.Entries.{entries}

-- what callers see of an expansion
pub record Expansion : Type 0 where
  pub lines : List ExpandedLine
  pub reads : List (List ℕ)
  pub faults : List Diag

-- the line that an entry is, unless it is an `#INCLUDE`
abbrev pub held_lines : List ℕ → ℕ → Held → List ExpandedLine
held_lines file line (Line depth body) = record { file = file; line = line; depth = depth; body = body } ∷ []
held_lines file line (Library depth units list fault) = record { file = file; line = line; depth = depth; body = body.Uses units } ∷ []
held_lines file line (Include name fault) = []

abbrev pub entry_lines : ExpansionEntry → List ExpandedLine
entry_lines entry = held_lines entry.file entry.line entry.held

-- a `#USE` of a library looks up its list, and an `#INCLUDE` its file unless that is refused for the files under way or for
-- their number
abbrev pub fault_names : List ℕ → Option Code → List (List ℕ)
fault_names name (Some code.G5) = []
fault_names name (Some code.G6) = []
fault_names name other = name ∷ []

abbrev pub held_names : Held → List (List ℕ)
held_names (Line depth body) = []
held_names (Library depth units list fault) = list ∷ []
held_names (Include name fault) = fault_names name fault

abbrev pub entry_names : ExpansionEntry → List (List ℕ)
entry_names entry = held_names entry.held

-- the fault of a list or of an `#INCLUDE`, with the name of its file
abbrev pub held_faults : List ℕ → ℕ → Held → List Diag
held_faults file line (Library depth units list (Some fault)) = error_at file line fault (Some list) ∷ []
held_faults file line (Include name (Some fault)) = error_at file line fault (Some name) ∷ []
held_faults file line other = []

abbrev pub entry_faults : ExpansionEntry → List Diag
entry_faults entry = held_faults entry.file entry.line entry.held

-- where there are more entries than may be, the first of them has the fault for that
abbrev pub limit_fault : ExpansionEntry → Diag
limit_fault entry = error_at entry.file entry.line code.G6 None

abbrev pub limit_faults : List ExpansionEntry → List Diag
limit_faults [] = []
limit_faults (entry ∷ more) = limit_fault entry ∷ []

-- all entries of a unit with these lines, or without any if it is not open; 16 inclusions may be nested
abbrev pub unit_entries : List Read → List ℕ → Option (List SourceLine) → List ExpansionEntry
unit_entries reads unit None = []
unit_entries reads unit (Some lines) = entries reads 16 (unit ∷ []) unit 0 lines

-- what so many of the entries give
abbrev pub expansion_of : ℕ → List ℕ → List ExpansionEntry → Expansion
expansion_of limit unit all = record {
  lines = flat_map entry_lines (take limit all);
  reads = first_indices (unit ∷ flat_map entry_names (take limit all));
  faults = flat_map entry_faults (take limit all) ++ limit_faults (drop limit all);
}

-- the expansion of the unit over these files: one that is not among them counts as absent
unfoldable pub expansion : List Read → List ℕ → Expansion
expansion reads unit = expansion_of 65535 unit (unit_entries reads unit (open_lines reads unit))

-- the first name that it looks up and that is not among the files
abbrev pub not_given : List Read → List ℕ → Option (List ℕ)
not_given reads unit = find (λ name. not (is_some (member reads name))) (expansion reads unit).reads
