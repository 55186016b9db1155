use Rattle.std.proofs.Common.{◌≡◌, ◌++◌, drop}
use Rattle.occ_expr_operations.specs.Parts.{terms}
use Rattle.occ_scope.specs.declared.scope.Scope.{Scope}
use Rattle.occ_typing_lines.specs.inside.Decimals.{AreDecimals}
use Rattle.occ_typing_lines.proofs.options.push_decimals.Given as goal
use Rattle.occ_typing_statements.specs.Statements.{said}

abbrev pub invariant-loop-expr : goal.invariant-loop-expr
invariant-loop-expr l =
    (AreDecimals (drop l.expr-index l.exprs) → AreDecimals l.exprs)
    × ((s : Scope) → l.terms ++ terms (said s (drop l.expr-index l.exprs)) ≡ l.fn.terms ++ terms (said s l.exprs))
