use Rattle.std.proofs.Common.{◌≡◌, ◌≤◌, ◌<◌, ℕ, List, Some, slice_get}
use Rattle.occ_usage_values.specs.declared.uses.Use.{Use}
use Rattle.occ_usage_conflicts.proofs.reach.last_root.Given as goal

abbrev pub invariant-loop-component : goal.invariant-loop-component
invariant-loop-component l = (k j : ℕ) (us : List Use) (u : Use) → k < l.component-index → slice_get l.components k ≡ Some us → slice_get us j ≡ Some u → u.part.root ≤ l.last
