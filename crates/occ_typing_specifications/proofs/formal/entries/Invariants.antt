use Rattle.std.proofs.Common.{◌≡◌, ◌++◌, drop}
use Rattle.occ_typing_specifications.specs.Formals.{entries}
use Rattle.occ_typing_specifications.proofs.formal.entries.Given as goal

abbrev pub invariant-loop-one : goal.invariant-loop-one
invariant-loop-one l = l.entries ++ entries l.known (drop l.one-index l.formals) ≡ entries l.known l.formals
