use Rattle.std.proofs.Common.{◌≡◌, [], length}
use Rattle.occ_check.specs.FormalUses.{coded}
use Rattle.occ_check.proofs.formal_uses.in_order.Given as goal

abbrev pub invariant-loop-found : goal.invariant-loop-found
invariant-loop-found l = coded l.uses l.coded.entries ≡ coded l.fn.uses []

abbrev pub decreases-loop-found : goal.decreases-loop-found
decreases-loop-found l = length l.uses
