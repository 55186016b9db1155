use Rattle.std.proofs.Common.{◌≡◌, drop}
use Rattle.occ_typing_specifications.specs.Formals.{all_known}
use Rattle.occ_typing_specifications.proofs.formal.all_known.Given as goal

abbrev pub invariant-loop-one : goal.invariant-loop-one
invariant-loop-one l = all_known (drop l.one-index l.formals) ≡ all_known l.formals
