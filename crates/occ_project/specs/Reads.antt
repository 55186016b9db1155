-- The files that an expansion may look up.
use Rattle.std.specs.Prelude.{ℕ, suc, Bool, cond, List, [], ◌∷◌, Option, Some, None}
use Rattle.std.specs.List.{find}
use Rattle.std.specs.Ordering.{nat_cmp}
use Rattle.std.specs.Cmp.Lexicographic.{slice_cmp}
use Rattle.std.specs.declared.cmp.Ordering.{Ordering}
use Rattle.std.specs.Option.{option_and_then, option_map}
use Rattle.std.specs.Str.{bytes_eq}
use Rattle.occ_lines.specs.Listing.{listed}
use Rattle.occ_forms.specs.Prepared.{Prepared}
use Rattle.occ_forms.specs.declared.source.SourceLine.{SourceLine}
use Rattle.occ_project.specs.declared.reads.Read.{Read}

-- the file has that name
abbrev pub is_named : List ℕ → Read → Bool
is_named name read = bytes_eq read.name name

-- the first member of that name
abbrev pub member : List Read → List ℕ → Option Read
member reads name = find (is_named name) reads

-- the file of that name, if it is open: one of which there is no member is not
abbrev pub open_source : List Read → List ℕ → Option Prepared
open_source reads name = option_and_then (λ read. read.source) (member reads name)

-- its lines
abbrev pub open_lines : List Read → List ℕ → Option (List SourceLine)
open_lines reads name = option_map (λ source. source.lines) (open_source reads name)

-- its text
abbrev pub open_text : List Read → List ℕ → Option (List ℕ)
open_text reads name = option_map (λ source. source.text) (open_source reads name)

-- the lines of a file, if it is open, and what its text lists
abbrev pub lines_in : Read → Option (List SourceLine)
lines_in read = option_map (λ source. source.lines) read.source

abbrev pub listed_in : Read → Option (Option (List (List ℕ)))
listed_in read = option_map (λ source. listed source.text) read.source

-- the place of the first member of that name
abbrev pub index : List ℕ → List Read → Option ℕ
index name [] = None
index name (read ∷ reads) = cond (is_named name read) (Some 0) (option_map suc (index name reads))

-- the order of names
abbrev pub name_cmp : List ℕ → List ℕ → Ordering
name_cmp = slice_cmp nat_cmp
