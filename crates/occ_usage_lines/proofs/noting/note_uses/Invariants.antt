use Rattle.std.proofs.Common.{◌≡◌, ℕ, true, take}
use Rattle.occ_usage_lines.specs.inside.Noting.{AreKept, are_in, is_noted}
use Rattle.occ_usage_lines.proofs.noting.note_uses.Given as goal

abbrev pub invariant-loop-found : goal.invariant-loop-found
invariant-loop-found l =
    AreKept l.initial.lists.items l.lists.items
    × ((list : ℕ) → are_in list (take l.found-index l.uses) ≡ true → is_noted l.lists.items list l.number ≡ true)
