use Rattle.std.proofs.Common.{◌≡◌, ◌++◌, drop}
use Rattle.occ_usage_values.specs.Views.{actual_views, actuals_uses, each_uses, expr_views, selector_views, selectors_uses}
use Rattle.occ_usage_values.proofs.using.+using.Given as goal

abbrev pub invariant-each_uses-loop-expr : goal.invariant-each_uses-loop-expr
invariant-each_uses-loop-expr l = l.uses ++ each_uses (expr_views (drop l.expr-index l.exprs)) l.env l.line ≡ l.initial.uses ++ each_uses (expr_views l.exprs) l.env l.line

abbrev pub invariant-selectors_uses-loop-selector : goal.invariant-selectors_uses-loop-selector
invariant-selectors_uses-loop-selector l = l.uses ++ selectors_uses (selector_views (drop l.selector-index l.selectors)) l.env l.line ≡ l.initial.uses ++ selectors_uses (selector_views l.selectors) l.env l.line

abbrev pub invariant-actuals_uses-loop-actual : goal.invariant-actuals_uses-loop-actual
invariant-actuals_uses-loop-actual l = l.uses ++ actuals_uses (actual_views (drop l.actual-index l.actuals)) l.env l.line ≡ l.initial.uses ++ actuals_uses (actual_views l.actuals) l.env l.line
