use Rattle.std.proofs.Common.{◌≡◌, ◌++◌, drop}
use Rattle.occ_alias.specs.AbbreviationRule.{written_faults as reported}
use Rattle.occ_alias.proofs.pairs.written_faults.Given as goal

abbrev pub invariant-loop-found : goal.invariant-loop-found
invariant-loop-found l = l.faults ++ reported l.code l.env (drop l.found-index l.uses) l.reads ≡ l.initial.faults ++ reported l.code l.env l.uses l.reads
