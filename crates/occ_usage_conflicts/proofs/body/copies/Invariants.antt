use Rattle.std.proofs.Common.{◌≡◌, take}
use Rattle.occ_usage_conflicts.proofs.body.copies.Given as goal

abbrev pub invariant-loop-one : goal.invariant-loop-one
invariant-loop-one l = l.copies ≡ take l.one-index l.uses
