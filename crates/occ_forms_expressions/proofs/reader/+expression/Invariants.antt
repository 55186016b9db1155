use Rattle.std.proofs.Common.{length}
use Rattle.occ_forms_expressions.proofs.reader.+expression.Given as goal

abbrev pub decreases-expression : goal.decreases-expression
decreases-expression l = length l.tokens.now
