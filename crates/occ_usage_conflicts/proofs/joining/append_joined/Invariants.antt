use Rattle.std.proofs.Common.{◌≡◌, ◌++◌}
use Rattle.std.specs.Vec.Iter.{into_iter_items}
use Rattle.occ_usage_conflicts.specs.Components.{joined}
use Rattle.occ_usage_conflicts.proofs.joining.append_joined.Given as goal

abbrev pub invariant-loop-one : goal.invariant-loop-one
invariant-loop-one l = l.all ++ joined (into_iter_items l.one-iterator) ≡ l.initial.all ++ joined l.fn.components.items
