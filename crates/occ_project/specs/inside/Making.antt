-- What is kept while an expansion is made, entry by entry. No definition of the expansion needs it.
use Rattle.std.specs.Prelude.{ℕ, ◌-◌, nat_eq, true, false, cond, List, [], ◌∷◌, ◌++◌}
use Rattle.occ_project.specs.declared.entry.ExpansionEntry.{ExpansionEntry}
use Rattle.occ_project.specs.declared.making.Made.{Made}
use Rattle.occ_base.specs.Firsts.{first_indices}
use Rattle.occ_project.specs.Expansion.{Expansion, entry_faults, entry_lines, entry_names, limit_fault}

-- at the start the unit alone is looked up
abbrev pub started : ℕ → List ℕ → Made
started room unit = record { lines = []; faults = []; names = unit ∷ []; room = room; is_over = false }

-- with one entry more
abbrev pub with_entry : Made → ExpansionEntry → Made
with_entry made entry = record {
  lines = made.lines ++ entry_lines entry;
  faults = made.faults ++ entry_faults entry;
  names = made.names ++ entry_names entry;
  room = made.room - 1;
  is_over = false;
}

-- ended before an entry for which there is no room
abbrev pub ended : Made → ExpansionEntry → Made
ended made entry = record {
  lines = made.lines;
  faults = made.faults ++ limit_fault entry ∷ [];
  names = made.names;
  room = made.room;
  is_over = true;
}

-- after an entry comes
abbrev pub step : Made → ExpansionEntry → Made
step made entry = cond made.is_over made (cond (nat_eq made.room 0) (ended made entry) (with_entry made entry))

-- after these come
abbrev pub after : Made → List ExpansionEntry → Made
after made [] = made
after made (entry ∷ more) = after (step made entry) more

-- what was made, with the names that were looked up at their first indices
abbrev pub shown : Made → Expansion
shown made = record { lines = made.lines; reads = first_indices made.names; faults = made.faults }
