use Rattle.std.proofs.Common.{◌≡◌, ◌++◌, drop}
use Rattle.occ_alias.specs.AbbreviationRule.{written_by as reported}
use Rattle.occ_alias.proofs.pairs.written_by.Given as goal

abbrev pub invariant-loop-read : goal.invariant-loop-read
invariant-loop-read l = l.faults ++ reported l.code l.env l.found (drop l.read-index l.reads) ≡ l.initial.faults ++ reported l.code l.env l.found l.reads
