use Rattle.std.proofs.Common.{◌≡◌, ◌++◌, drop}
use Rattle.occ_usage.specs.FunctionRule.{write_faults as reported}
use Rattle.occ_usage.proofs.function.write_faults.Given as goal

abbrev pub invariant-loop-found : goal.invariant-loop-found
invariant-loop-found l = l.faults ++ reported l.number l.env (drop l.found-index l.uses) ≡ l.initial.faults ++ reported l.number l.env l.uses
