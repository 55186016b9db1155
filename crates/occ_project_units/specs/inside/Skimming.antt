-- What is noted of an expansion that is gone through for what it looks up and uses, entry by entry.
use Rattle.std.specs.Prelude.{ℕ, ◌-◌, nat_eq, true, false, cond, List, [], ◌∷◌, ◌++◌}
use Rattle.occ_project.specs.declared.entry.ExpansionEntry.{ExpansionEntry}
use Rattle.occ_project.specs.declared.entry.Held.{Held}
use Rattle.occ_project.specs.declared.entry.Held.TheVariants.{Line, Library, Include}
use Rattle.occ_project.specs.Expansion.{held_names}
use Rattle.occ_project.specs.Uses.{body_units}
use Rattle.occ_project_units.specs.declared.skimming.Noted.{Noted}

-- at the start the unit alone is looked up
abbrev pub started : List ℕ → Noted
started unit = record { names = unit ∷ []; units = []; room = 65535; is_over = false }

-- an entry comes that looks these up and uses these
abbrev pub with_both : Noted → List (List ℕ) → List (List ℕ) → Noted
with_both noted names units = record { names = noted.names ++ names; units = noted.units ++ units; room = noted.room - 1; is_over = false }

-- there is no room for it
abbrev pub ended : Noted → Noted
ended noted = record { names = noted.names; units = noted.units; room = noted.room; is_over = true }

abbrev pub noted_also : Noted → List (List ℕ) → List (List ℕ) → Noted
noted_also noted names units = cond noted.is_over noted (cond (nat_eq noted.room 0) (ended noted) (with_both noted names units))

-- the units that an entry uses
abbrev pub held_units : Held → List (List ℕ)
held_units (Line depth body) = body_units body
held_units (Library depth units list fault) = units
held_units (Include name fault) = []

-- after an entry that holds this
abbrev pub step : Noted → Held → Noted
step noted held = noted_also noted (held_names held) (held_units held)

-- after these come
abbrev pub after : Noted → List ExpansionEntry → Noted
after noted [] = noted
after noted (entry ∷ more) = after (step noted entry.held) more
