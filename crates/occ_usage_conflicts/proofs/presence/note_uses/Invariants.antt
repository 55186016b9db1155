use Rattle.std.proofs.Common.{◌≡◌, ◌<◌, ℕ, Some, length, slice_get}
use Rattle.occ_usage_values.specs.declared.uses.Use.{Use}
use Rattle.occ_usage_conflicts.specs.inside.Presences.{IsIn}
use Rattle.occ_usage_conflicts.proofs.presence.note_uses.Given as goal

abbrev pub invariant-loop-one : goal.invariant-loop-one
invariant-loop-one l =
    (length l.stands ≡ length l.initial.stands)
    × ((k : ℕ) (u : Use) → k < l.one-index → slice_get l.uses k ≡ Some u → u.part.root < length l.initial.stands → IsIn l.stands u.part.root l.component)
    × ((other i : ℕ) → IsIn l.initial.stands other i → IsIn l.stands other i)
