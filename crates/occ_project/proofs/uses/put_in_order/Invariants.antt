use Rattle.std.proofs.Common.{◌≡◌, length}
use Rattle.occ_base.specs.Order.{placed}
use Rattle.occ_project.specs.Reads.{name_cmp}
use Rattle.occ_project.specs.Uses.{names_in_order}
use Rattle.occ_project.proofs.uses.put_in_order.Given as goal

abbrev pub invariant-loop-name : goal.invariant-loop-name
invariant-loop-name l = placed name_cmp l.names l.set.keys ≡ names_in_order l.fn.names

abbrev pub decreases-loop-name : goal.decreases-loop-name
decreases-loop-name l = length l.names
