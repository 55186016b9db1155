use Rattle.std.proofs.Common.{◌≡◌, ◌≤◌, ◌<◌, ℕ, Some, slice_get}
use Rattle.occ_usage_values.specs.declared.uses.Use.{Use}
use Rattle.occ_usage_conflicts.proofs.pairs.next_root_of.Given as goal

abbrev pub invariant-loop-one : goal.invariant-loop-one
invariant-loop-one l = (l.from ≤ l.next) × (l.next ≤ l.count) × ((k : ℕ) (u : Use) → k < l.one-index → slice_get l.uses k ≡ Some u → l.from ≤ u.part.root → l.next ≤ u.part.root)
