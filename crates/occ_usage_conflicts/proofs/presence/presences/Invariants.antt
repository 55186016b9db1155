use Rattle.std.proofs.Common.{◌≡◌, ◌<◌, ℕ, List, Some, length, slice_get}
use Rattle.occ_usage_values.specs.declared.uses.Use.{Use}
use Rattle.occ_usage_conflicts.specs.inside.Presences.{IsIn}
use Rattle.occ_usage_conflicts.proofs.presence.presences.Given as goal

abbrev pub invariant-loop-place : goal.invariant-loop-place
invariant-loop-place l =
    (length l.stands ≡ l.count)
    × ((i k : ℕ) (us : List Use) (u : Use) → i < l.place → slice_get l.components i ≡ Some us → slice_get us k ≡ Some u → u.part.root < l.count → IsIn l.stands u.part.root i)
