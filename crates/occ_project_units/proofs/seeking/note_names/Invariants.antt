use Rattle.std.proofs.Common.{◌≡◌, List, ℕ, false, take, true}
use Rattle.std.specs.Str.{bytes_eq}
use Rattle.occ_project.specs.Entries.{is_among}
use Rattle.occ_project_units.proofs.seeking.note_names.Given as goal
use Rattle.occ_project_units.specs.inside.Keeping.{IsMore, looking_for}

abbrev pub invariant-loop-name : goal.invariant-loop-name
invariant-loop-name l =
    IsMore l.fn.lookers l.lookers
    × ((name : List ℕ) → is_among (take l.name-index l.names) name ≡ true → bytes_eq l.unit name ≡ false → is_among (looking_for l.lookers name) l.unit ≡ true)
