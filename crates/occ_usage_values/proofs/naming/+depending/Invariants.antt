use Rattle.std.proofs.Common.{◌≡◌, drop}
use Rattle.occ_usage_values.specs.Naming.{actuals_depend, exprs_depend}
use Rattle.occ_usage_values.proofs.naming.+depending.Given as goal

abbrev pub invariant-expressions_depend-loop-expr : goal.invariant-expressions_depend-loop-expr
invariant-expressions_depend-loop-expr l = exprs_depend l.number (drop l.expr-index l.exprs) ≡ exprs_depend l.number l.exprs

abbrev pub invariant-actuals_depend-loop-actual : goal.invariant-actuals_depend-loop-actual
invariant-actuals_depend-loop-actual l = actuals_depend l.number (drop l.actual-index l.actuals) ≡ actuals_depend l.number l.actuals
