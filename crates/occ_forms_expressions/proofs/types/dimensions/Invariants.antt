use Rattle.occ_lines.specs.declared.token.Symbol.TheVariants as s
use Rattle.occ_forms_expressions.specs.Reading.{IsNot}
use Rattle.occ_forms_expressions.specs.Spelling.{dimension_then}
use Rattle.occ_forms_expressions.proofs.Many.{Kept}
use Rattle.std.proofs.Common.{length}
use Rattle.occ_forms_expressions.proofs.types.dimensions.Given as goal

abbrev pub invariant-loop-begun : goal.invariant-loop-begun
invariant-loop-begun g l = Kept dimension_then (IsNot s.OpenIndex) l.tokens l.found l.rest

abbrev pub decreases-loop-begun : goal.decreases-loop-begun
decreases-loop-begun g l = length l.rest
