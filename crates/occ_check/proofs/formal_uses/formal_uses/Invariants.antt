use Rattle.std.proofs.Common.{◌≡◌, ◌++◌, drop}
use Rattle.occ_check.specs.FormalUses.{formal_uses as reported}
use Rattle.occ_check.proofs.formal_uses.formal_uses.Given as goal

abbrev pub invariant-loop-found : goal.invariant-loop-found
invariant-loop-found l = l.uses ++ reported l.number (drop l.found-index l.body) ≡ reported l.number l.body
