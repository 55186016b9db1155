use Rattle.std.proofs.Common.{◌-◌, suc, length}
use Rattle.occ_usage_lines.specs.inside.Noting.{AreKept}
use Rattle.occ_usage_lines.proofs.noting.make_lists.Given as goal

abbrev pub invariant-loop-alloc : goal.invariant-loop-alloc
invariant-loop-alloc l = AreKept l.initial.lists.items l.lists.items

abbrev pub decreases-loop-alloc : goal.decreases-loop-alloc
decreases-loop-alloc l = suc l.list - length l.lists.items
