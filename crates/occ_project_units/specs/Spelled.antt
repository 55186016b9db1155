-- Projects whose files have the lines that their texts spell.
use Rattle.std.specs.Prelude.{ℕ, List, Option, Some, None}
use Rattle.occ_forms.specs.Prepared.{IsPrepared, Prepared}
use Rattle.occ_project.specs.declared.reads.Read.{Read}
use Rattle.occ_project_units.specs.Project.{file_of}

-- the file is absent, or its lines are those that its text spells
abbrev pub IsSpelled : Option Prepared → Type 0
IsSpelled None = Unit {0}
IsSpelled (Some source) = IsPrepared source.text source.lines

abbrev pub AreSpelled : List Read → Type 0
AreSpelled files = (name : List ℕ) → IsSpelled (file_of files name).source
