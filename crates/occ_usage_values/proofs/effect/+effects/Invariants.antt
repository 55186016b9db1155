use Rattle.std.proofs.Common.{◌≡◌, drop}
use Rattle.occ_usage_values.specs.Views.{actual_views, actuals_effect, each_effect, expr_views, selector_views, selectors_effect}
use Rattle.occ_usage_values.proofs.effect.+effects.Given as goal

abbrev pub invariant-each_effect-loop-expr : goal.invariant-each_effect-loop-expr
invariant-each_effect-loop-expr l = each_effect (expr_views (drop l.expr-index l.exprs)) l.env ≡ each_effect (expr_views l.exprs) l.env

abbrev pub invariant-selectors_effect-loop-selector : goal.invariant-selectors_effect-loop-selector
invariant-selectors_effect-loop-selector l = selectors_effect (selector_views (drop l.selector-index l.selectors)) l.env ≡ selectors_effect (selector_views l.selectors) l.env

abbrev pub invariant-actuals_effect-loop-actual : goal.invariant-actuals_effect-loop-actual
invariant-actuals_effect-loop-actual l = actuals_effect (actual_views (drop l.actual-index l.actuals)) l.env ≡ actuals_effect (actual_views l.actuals) l.env
