use Rattle.std.proofs.Common.{◌≡◌, ◌++◌, drop}
use Rattle.occ_alias.specs.AbbreviationRule.{free_faults as reported}
use Rattle.occ_alias.proofs.calling.free_faults.Given as goal

abbrev pub invariant-loop-found : goal.invariant-loop-found
invariant-loop-found l = l.faults ++ reported l.line l.callee l.env l.part (drop l.found-index l.body) ≡ l.initial.faults ++ reported l.line l.callee l.env l.part l.body
