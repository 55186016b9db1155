use Rattle.std.proofs.Common.{◌≡◌, ◌++◌, drop}
use Rattle.occ_expr_operations.specs.Parts.{own_faults, terms as terms_of}
use Rattle.occ_typing_statements.specs.StatementTrees.{open_exprs as opens_of}
use Rattle.occ_typing_statements.specs.Statements.{said}
use Rattle.occ_typing_statements.proofs.statement.more_expressions.Given as goal

abbrev pub invariant-loop-expr : goal.invariant-loop-expr
invariant-loop-expr l =
    (l.readings.terms ++ terms_of (said l.scope (drop l.expr-index l.exprs)) ≡ l.initial.readings.terms ++ terms_of (said l.scope l.exprs))
    × (l.readings.open_exprs ++ opens_of l.scope (drop l.expr-index l.exprs) ≡ l.initial.readings.open_exprs ++ opens_of l.scope l.exprs)
    × (l.faults ++ own_faults (said l.scope (drop l.expr-index l.exprs)) ≡ l.initial.faults ++ own_faults (said l.scope l.exprs))
