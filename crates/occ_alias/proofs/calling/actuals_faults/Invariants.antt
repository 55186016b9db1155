use Rattle.std.proofs.Common.{◌≡◌, ◌++◌, drop}
use Rattle.occ_alias.specs.AbbreviationRule.{actuals_faults as reported}
use Rattle.occ_alias.proofs.calling.actuals_faults.Given as goal

abbrev pub invariant-loop-at : goal.invariant-loop-at
invariant-loop-at l =
    l.faults ++ reported l.line l.callee l.env l.body (drop l.at l.places) ≡ l.initial.faults ++ reported l.line l.callee l.env l.body l.places
