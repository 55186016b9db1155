use Rattle.std.proofs.Common.{◌≡◌, ◌++◌, drop}
use Rattle.occ_alias.specs.AbbreviationRule.{calls_faults as reported}
use Rattle.occ_alias.proofs.calling.calls_faults.Given as goal

abbrev pub invariant-loop-call : goal.invariant-loop-call
invariant-loop-call l = l.faults ++ reported l.line l.env (drop l.call-index l.calls) ≡ l.initial.faults ++ reported l.line l.env l.calls
