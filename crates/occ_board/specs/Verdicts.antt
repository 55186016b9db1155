-- What becomes of an outcome: it counts only if it has looked at what is so at present.
use Rattle.std.specs.Prelude.{ℕ, nat_lt, nat_eq, Bool, true, false, ◌&&◌, ◌||◌, not, List, [], ◌∷◌, if◌then◌else◌, Option, Some, None}
use Rattle.std.specs.List.{find}
use Rattle.std.specs.Option.{option_map}
use Rattle.std.specs.Str.{bytes_eq}
use Rattle.occ_board.specs.Done.{done, is_cached}
use Rattle.occ_board.specs.Same.{same_used}
use Rattle.occ_board.specs.declared.verdict.Verdict.{Verdict}
use Rattle.occ_board.specs.declared.verdict.Verdict.TheVariants as verdict
use Rattle.occ_check.specs.Input.{Input}
use Rattle.occ_check.specs.declared.used.UsedUnit.{UsedUnit}
use Rattle.occ_forms.specs.Prepared.{Prepared}
use Rattle.occ_project.specs.declared.reads.Read.{Read}
use Rattle.occ_check.specs.Checks.{checked, used_unit}
use Rattle.occ_project_units.specs.Indices.{is_below, standing_of}
use Rattle.occ_project_units.specs.Project.{file_of}

abbrev pub same_text : Option Prepared → Option Prepared → Bool
same_text None None = true
same_text (Some a) (Some b) = bytes_eq a.text b.text
same_text (Some a) None = false
same_text None (Some b) = false

-- a file that is not at present as it was read, where so many edits were accepted
abbrev pub off_read : ℕ → Read → Read → Verdict
off_read accepted read now = if nat_lt accepted read.revision || nat_eq read.revision now.revision then verdict.Foreign read.name else verdict.Stale read.name

abbrev pub is_as_read : Read → Read → Bool
is_as_read read now = nat_eq read.revision now.revision && same_text read.source now.source

-- the first of the reads that is not at present so decides
abbrev pub reads_verdict : List Read → ℕ → List Read → Option Verdict
reads_verdict files accepted [] = None
reads_verdict files accepted (read ∷ reads) =
    if is_as_read read (file_of files read.name) then reads_verdict files accepted reads else Some (off_read accepted read (file_of files read.name))

-- a used unit that is open, in no circle and pending, or that stands otherwise at present
abbrev pub is_off : List Read → List Input → List ℕ → UsedUnit → Bool
is_off files cached u one =
    (is_below (standing_of files u one.unit) && not (done files cached one.unit)) || not (same_used one (used_unit files u (checked files) one.unit))

-- the first of the used units that is so decides
abbrev pub uses_verdict : List Read → List Input → Input → Option Verdict
uses_verdict files cached i = option_map (λ one. verdict.Stale one.unit) (find (is_off files cached i.unit) i.used)

abbrev pub or_else : Option Verdict → Verdict → Verdict
or_else (Some v) later = v
or_else None later = later

-- of an outcome that has looked at this
abbrev pub verdict_of : List Read → ℕ → List Input → Input → Verdict
verdict_of files accepted cached i =
    or_else (reads_verdict files accepted i.reads) (or_else (uses_verdict files cached i) (if is_cached cached i then verdict.Repeated else verdict.Accepted))
