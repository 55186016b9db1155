-- All entries of a file: one for each of its lines, and after that of an `#INCLUDE` those of the file that it puts in. The line
-- of a `#USE` has the units that it uses.
use Rattle.std.specs.Prelude.{ℕ, zero, suc, ◌+◌, nat_eq, Bool, cond, List, [], ◌∷◌, ◌++◌, Option, Some, None, Result, Ok, Err}
use Rattle.std.specs.List.{flat_map, list_any}
use Rattle.std.specs.Option.{ok_or, option_map, unwrap_or}
use Rattle.std.specs.Result.{result_err, result_ok}
use Rattle.std.specs.Str.{bytes_eq}
use Rattle.occ_base.specs.declared.code.Code.{Code}
use Rattle.occ_base.specs.declared.code.Code.TheVariants.{G4, G5, G6, G7}
use Rattle.occ_lines.specs.Listing.{listed}
use Rattle.occ_forms.specs.declared.source.LineBody.{LineBody}
use Rattle.occ_forms.specs.declared.source.LineBody.TheVariants as body
use Rattle.occ_forms.specs.declared.source.SourceLine.{SourceLine}
use Rattle.occ_project.specs.declared.entry.ExpansionEntry.{ExpansionEntry}
use Rattle.occ_project.specs.declared.entry.Held.{Held}
use Rattle.occ_project.specs.declared.entry.Held.TheVariants.{Line, Library, Include}
use Rattle.occ_project.specs.declared.expanded.ExpandedBody.TheVariants as to
use Rattle.occ_project.specs.declared.reads.Read.{Read}
use Rattle.occ_project.specs.Reads.{open_lines, open_text}

-- the name is among these
abbrev pub is_among : List (List ℕ) → List ℕ → Bool
is_among names name = list_any (λ other. bytes_eq other name) names

-- what stands in the place of an `#INCLUDE` of that file: its lines, or the fault for which nothing does. `way` holds
-- the unit and the files under way, and so many inclusions may be nested there
abbrev pub included : List Read → List (List ℕ) → ℕ → List ℕ → Result (List SourceLine) Code
included reads way left name = cond (is_among way name) (Err G5) (cond (nat_eq left 0) (Err G6) (ok_or (open_lines reads name) G4))

-- the units that a library stands for: those that its list has; if the text of that is none, none and the fault G7; and if it is not
-- open, the unit of the library's own name
abbrev pub listing : List ℕ → Option (List ℕ) → Result (List (List ℕ)) Code
listing unit None = Ok (unit ∷ [])
listing unit (Some text) = ok_or (listed text) G7

abbrev pub library_line : ℕ → List ℕ → Result (List (List ℕ)) Code → Held
library_line depth list found = Library depth (unwrap_or (result_ok found) []) list (result_err found)

-- the line of a `#USE`: that of a library has a list, which is looked up
abbrev pub use_line : List Read → ℕ → List ℕ → Option (List ℕ) → Held
use_line reads depth unit None = Line depth (to.Uses (unit ∷ []))
use_line reads depth unit (Some list) = library_line depth list (listing unit (open_text reads list))

-- what the entry of a line holds, where `found` says what an `#INCLUDE` puts in
abbrev pub held : List Read → (List ℕ → Result (List SourceLine) Code) → ℕ → LineBody → Held
held reads found depth (body.Form form) = Line depth (to.Form form)
held reads found depth (body.Uses unit list) = use_line reads depth unit list
held reads found depth (body.Fault fault) = Line depth (to.Fault fault)
held reads found depth (body.Include name) = Include name (result_err (found name))

-- the entry of a line of the file, whose depths are raised by so much
abbrev pub entry_of : List Read → (List ℕ → Result (List SourceLine) Code) → List ℕ → ℕ → SourceLine → ExpansionEntry
entry_of reads found file raise line = record { file = file; line = line.line; held = held reads found (raise + line.depth) line.body }

-- the file that a line puts in, and its lines
abbrev pub put_in : (List ℕ → Result (List SourceLine) Code) → LineBody → Option (List ℕ × List SourceLine)
put_in found (body.Include name) = option_map (λ lines. (name, lines)) (result_ok (found name))
put_in found other = None

-- what the entries of a file are: by the way to it, its name, what its depths are raised by, and its lines
abbrev pub FileEntries : Type 0
FileEntries = List (List ℕ) → List ℕ → ℕ → List SourceLine → List ExpansionEntry

-- those of a file that is put in
abbrev pub inner_entries : FileEntries → List (List ℕ) → ℕ → Option (List ℕ × List SourceLine) → List ExpansionEntry
inner_entries inner way raise None = []
inner_entries inner way raise (Some file) = inner (way ++ file.0 ∷ []) file.0 raise file.1

-- the entry of a line, and after it those of the file that it puts in
abbrev pub line_entries : List Read → ℕ → FileEntries → List (List ℕ) → List ℕ → ℕ → SourceLine → List ExpansionEntry
line_entries reads left inner way file raise line =
    entry_of reads (included reads way left) file raise line ∷ inner_entries inner way (raise + line.depth) (put_in (included reads way left) line.body)

-- those of all lines of a file
abbrev pub file_entries : List Read → ℕ → FileEntries → FileEntries
file_entries reads left inner way file raise lines = flat_map (line_entries reads left inner way file raise) lines

-- the same, where so many inclusions may be nested in the file
unfoldable pub entries : List Read → ℕ → FileEntries
entries reads zero = file_entries reads zero (λ way file raise lines. [])
entries reads (suc left) = file_entries reads (suc left) (entries reads left)
