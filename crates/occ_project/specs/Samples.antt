-- Files for rows.
use Rattle.std.specs.Prelude.{ℕ, List, [], ◌∷◌, map, Some, None}
use Rattle.std.specs.List.{range_with_len}
use Rattle.occ_forms.specs.declared.source.LineBody.TheVariants as body
use Rattle.occ_forms.specs.declared.source.SourceLine.{SourceLine}
use Rattle.occ_forms.specs.declared.tree.Form.TheVariants as form
use Rattle.occ_project.specs.declared.expanded.ExpandedBody.TheVariants as to
use Rattle.occ_project.specs.declared.expanded.ExpandedLine.{ExpandedLine}
use Rattle.occ_project.specs.declared.reads.Read.{Read}
use Rattle.occ_project.specs.Expansion.{Expansion, expansion_of, unit_entries}
use Rattle.occ_project.specs.Reads.{open_lines}

-- a line `:`, at this line and depth, and the same in an expansion
abbrev pub close_at : ℕ → ℕ → SourceLine
close_at line depth = record { line = line; depth = depth; body = body.Form form.Close }

abbrev pub close_in : List ℕ → ℕ → ℕ → ExpandedLine
close_in file line depth = record { file = file; line = line; depth = depth; body = to.Form form.Close }

abbrev pub include_at : ℕ → ℕ → List ℕ → SourceLine
include_at line depth name = record { line = line; depth = depth; body = body.Include name }

abbrev pub use_at : ℕ → ℕ → List ℕ → SourceLine
use_at line depth unit = record { line = line; depth = depth; body = body.Uses unit None }

-- of a library with that list
abbrev pub library_at : ℕ → ℕ → List ℕ → List ℕ → SourceLine
library_at line depth unit list = record { line = line; depth = depth; body = body.Uses unit (Some list) }

-- such a line in an expansion
abbrev pub use_in : List ℕ → ℕ → ℕ → List (List ℕ) → ExpandedLine
use_in file line depth units = record { file = file; line = line; depth = depth; body = to.Uses units }

abbrev pub open_file : List ℕ → List SourceLine → Read
open_file name lines = record { name = name; revision = 1; source = Some (record { text = []; lines = lines }) }

-- a file with that text, as a list is read
abbrev pub open_list : List ℕ → List ℕ → Read
open_list name text = record { name = name; revision = 1; source = Some (record { text = text; lines = [] }) }

abbrev pub absent_file : List ℕ → Read
absent_file name = record { name = name; revision = 0; source = None }

-- files of which each includes the next by its one line
abbrev pub chain : List (List ℕ) → List Read
chain [] = []
chain (name ∷ []) = open_file name [] ∷ []
chain (name ∷ next ∷ names) = open_file name (include_at 1 0 next ∷ []) ∷ chain (next ∷ names)

-- so many names
abbrev pub some_names : ℕ → List (List ℕ)
some_names count = map (λ n. n ∷ []) (range_with_len 1 count)

-- an expansion with another limit
abbrev pub limited : ℕ → List Read → List ℕ → Expansion
limited limit reads unit = expansion_of limit unit (unit_entries reads unit (open_lines reads unit))
