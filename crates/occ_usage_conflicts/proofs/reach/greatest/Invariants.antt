use Rattle.std.proofs.Common.{◌≡◌, ◌≤◌, ◌<◌, ℕ, Some, slice_get}
use Rattle.occ_usage_values.specs.declared.uses.Use.{Use}
use Rattle.occ_usage_conflicts.proofs.reach.greatest.Given as goal

abbrev pub invariant-loop-one : goal.invariant-loop-one
invariant-loop-one l = (l.number ≤ l.greatest) × ((k : ℕ) (u : Use) → k < l.one-index → slice_get l.uses k ≡ Some u → u.part.root ≤ l.greatest)
