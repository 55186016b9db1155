use Rattle.std.proofs.Common.{◌≡◌, ◌≤◌, ◌<◌, ℕ, List, Some, slice_get}
use Rattle.occ_usage_values.specs.declared.uses.Use.{Use}
use Rattle.occ_usage_conflicts.proofs.pairs.next_root.Given as goal

abbrev pub invariant-loop-component : goal.invariant-loop-component
invariant-loop-component l =
    (l.from ≤ l.next) × (l.next ≤ l.count) × ((i k : ℕ) (us : List Use) (u : Use) → i < l.component-index → slice_get l.components i ≡ Some us → slice_get us k ≡ Some u → l.from ≤ u.part.root → l.next ≤ u.part.root)
