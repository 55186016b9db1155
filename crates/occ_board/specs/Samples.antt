-- Edits and states for rows.
use Rattle.std.specs.Prelude.{ℕ, List, [], ◌∷◌, codes}
use Rattle.occ_board.specs.Machine.{Event, State, after, after_all, files_of, start}
use Rattle.occ_board.specs.declared.entry.Edit.{Edit}
use Rattle.occ_board.specs.declared.entry.Edit.TheVariants as edit
use Rattle.occ_board.specs.declared.entry.Entry.{Entry}
use Rattle.occ_check.specs.Input.{Input}
use Rattle.occ_forms.specs.Prepared.{Prepared}
use Rattle.occ_project.specs.Samples.{use_at}
use Rattle.occ_check.specs.Checks.{input}

-- a text whose lines hold nothing
abbrev pub blank : List ℕ → Prepared
blank text = record { text = text; lines = [] }

-- a text whose one line uses a unit
abbrev pub using : List ℕ → List ℕ → Prepared
using text unit = record { text = text; lines = use_at 1 0 unit ∷ [] }

-- session 1 makes these edits
abbrev pub entries : List Edit → List Entry
entries [] = []
entries (e ∷ es) = (record { session = 1; edit = e }) ∷ entries es

-- a file is opened with a text that holds nothing, and closed again
abbrev pub opened_and_closed : List ℕ → List Entry
opened_and_closed name = entries (edit.Added name (blank []) ∷ edit.Removed name ∷ [])

-- one unit is open, which uses a unit that is not
abbrev pub one_unit : State
one_unit = after start (Event.Edited 1 (edit.Added (codes "a.occ") (using [] (codes "b.occ"))))

-- what its check looks at
abbrev pub its_input : Input
its_input = input (files_of one_unit) (codes "a.occ")

-- its outcome is cached
abbrev pub checked_unit : State
checked_unit = after_all one_unit (Event.Take ∷ Event.Finish its_input ∷ [])
