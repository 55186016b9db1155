use Rattle.occ_forms_expressions.specs.Reading.{IsEndOfRun}
use Rattle.occ_forms_expressions.specs.Spelling.{operated_of}
use Rattle.occ_forms_expressions.proofs.Many.{Kept}
use Rattle.std.proofs.Common.{length}
use Rattle.occ_forms_expressions.proofs.tail.operands.Given as goal

abbrev pub invariant-loop-begun : goal.invariant-loop-begun
invariant-loop-begun g l = Kept (operated_of l.operator) IsEndOfRun l.tokens l.found l.rest

abbrev pub decreases-loop-begun : goal.decreases-loop-begun
decreases-loop-begun g l = length l.rest
