use Rattle.std.proofs.Common.{◌≡◌, ◌++◌, drop}
use Rattle.occ_alias.specs.AbbreviationRule.{place_pairs as reported}
use Rattle.occ_alias.proofs.calling.place_pairs.Given as goal

abbrev pub invariant-loop-other : goal.invariant-loop-other
invariant-loop-other l = l.faults ++ reported l.line l.env l.part (drop l.other-index l.others) ≡ l.initial.faults ++ reported l.line l.env l.part l.others
