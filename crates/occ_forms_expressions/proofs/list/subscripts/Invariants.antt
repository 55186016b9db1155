use Rattle.occ_lines.specs.declared.token.Symbol.TheVariants as s
use Rattle.occ_forms_expressions.specs.Reading.{IsNot}
use Rattle.occ_forms_expressions.specs.Spelling.{subscript_of}
use Rattle.occ_forms_expressions.proofs.Many.{Kept}
use Rattle.std.proofs.Common.{length}
use Rattle.occ_forms_expressions.proofs.list.subscripts.Given as goal

abbrev pub invariant-loop-begun : goal.invariant-loop-begun
invariant-loop-begun g l = Kept subscript_of (IsNot s.OpenIndex) l.tokens l.found l.rest

abbrev pub decreases-loop-begun : goal.decreases-loop-begun
decreases-loop-begun g l = length l.rest
