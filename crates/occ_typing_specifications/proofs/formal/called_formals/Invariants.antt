use Rattle.std.proofs.Common.{◌≡◌, ◌++◌, drop}
use Rattle.occ_typing_specifications.specs.Formals.{called_formals}
use Rattle.occ_typing_specifications.proofs.formal.called_formals.Given as goal

abbrev pub invariant-loop-one : goal.invariant-loop-one
invariant-loop-one l = l.called ++ called_formals (drop l.one-index l.formals) ≡ called_formals l.formals
