use Rattle.std.proofs.Common.{◌≡◌, take}
use Rattle.occ_check.proofs.ordered.copied_uses.Given as goal

abbrev pub invariant-loop-found : goal.invariant-loop-found
invariant-loop-found l = l.copy ≡ take l.found-index l.uses
