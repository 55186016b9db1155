use Rattle.std.proofs.Common.{◌≡◌, ◌++◌, drop}
use Rattle.occ_usage_values.specs.Views.{actual_views, actuals_calls, each_calls, expr_views, selector_views, selectors_calls}
use Rattle.occ_usage_values.proofs.calling.+calling.Given as goal

abbrev pub invariant-each_calls-loop-expr : goal.invariant-each_calls-loop-expr
invariant-each_calls-loop-expr l = l.calls ++ each_calls (expr_views (drop l.expr-index l.exprs)) l.env l.line ≡ l.initial.calls ++ each_calls (expr_views l.exprs) l.env l.line

abbrev pub invariant-selectors_calls-loop-selector : goal.invariant-selectors_calls-loop-selector
invariant-selectors_calls-loop-selector l = l.calls ++ selectors_calls (selector_views (drop l.selector-index l.selectors)) l.env l.line ≡ l.initial.calls ++ selectors_calls (selector_views l.selectors) l.env l.line

abbrev pub invariant-actuals_calls-loop-actual : goal.invariant-actuals_calls-loop-actual
invariant-actuals_calls-loop-actual l = l.calls ++ actuals_calls (actual_views (drop l.actual-index l.actuals)) l.env l.line ≡ l.initial.calls ++ actuals_calls (actual_views l.actuals) l.env l.line
