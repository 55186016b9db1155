-- What stands after the first operand of an expression.
use Rattle.std.specs.Prelude.{◌∷◌}
use Rattle.occ_forms_expressions.specs.declared.tail.Tail.{Tail}
use Rattle.occ_forms_expressions.specs.declared.tail.Tail.TheVariants as ta
use Rattle.occ_forms_expressions.specs.declared.tree.Expr.{Expr}
use Rattle.occ_forms_expressions.specs.declared.tree.Expr.TheVariants as xv
use Rattle.occ_forms_expressions.specs.declared.tree.Operand.{Operand}
use Rattle.occ_forms_expressions.specs.Spelling.{Spelling, many, operand_then, operated_of, pair_token}

abbrev pub tail_then : Tail → Spelling
tail_then ta.Nothing k = k
tail_then (ta.Pair operator o) k = pair_token operator ∷ operand_then o k
tail_then (ta.Run operator o os) k = operated_of operator o (many (operated_of operator) os k)

-- the expression of the first operand and what stands after it
abbrev pub joined : Operand → Tail → Expr
joined first ta.Nothing = xv.Alone first
joined first (ta.Pair operator o) = xv.Pair first operator o
joined first (ta.Run operator o os) = xv.Run operator first o os
