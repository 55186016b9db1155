use Rattle.std.proofs.Common.{◌≡◌, drop}
use Rattle.occ_usage_values.specs.Naming.{actuals_name, exprs_name, selectors_name}
use Rattle.occ_usage_values.proofs.naming.+naming.Given as goal

abbrev pub invariant-expressions_name-loop-expr : goal.invariant-expressions_name-loop-expr
invariant-expressions_name-loop-expr l = exprs_name l.number (drop l.expr-index l.exprs) ≡ exprs_name l.number l.exprs

abbrev pub invariant-selectors_name-loop-selector : goal.invariant-selectors_name-loop-selector
invariant-selectors_name-loop-selector l = selectors_name l.number (drop l.selector-index l.selectors) ≡ selectors_name l.number l.selectors

abbrev pub invariant-actuals_name-loop-actual : goal.invariant-actuals_name-loop-actual
invariant-actuals_name-loop-actual l = actuals_name l.number (drop l.actual-index l.actuals) ≡ actuals_name l.number l.actuals
