use Rattle.std.proofs.Common.{◌≡◌, ◌++◌, length}
use Rattle.occ_tree.proofs.stack.Stack.into_items.Given as goal

abbrev pub invariant-loop-item : goal.invariant-loop-item
invariant-loop-item g l = l.items ++ l.self ≡ l.fn.self

abbrev pub decreases-loop-item : goal.decreases-loop-item
decreases-loop-item g l = length l.self
