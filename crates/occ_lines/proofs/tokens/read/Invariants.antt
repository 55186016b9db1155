use Rattle.std.proofs.Common.{length}
use Rattle.occ_lines.proofs.Reading.{Kept}
use Rattle.occ_lines.proofs.tokens.read.Given as goal

abbrev pub invariant-rest : goal.invariant-rest
invariant-rest l = Kept l.initial.tokens l.fn.text l.tokens l.rest

abbrev pub decreases-rest : goal.decreases-rest
decreases-rest l = length l.rest
