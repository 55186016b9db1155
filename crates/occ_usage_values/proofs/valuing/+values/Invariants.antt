use Rattle.std.proofs.Common.{◌≡◌, drop}
use Rattle.occ_usage_values.specs.Values.{folded_after}
use Rattle.occ_usage_values.specs.Views.{expr_views, folded_all, selector_views, sized, values_of}
use Rattle.occ_usage_values.proofs.valuing.+values.Given as goal

abbrev pub invariant-operation-loop-operand : goal.invariant-operation-loop-operand
invariant-operation-loop-operand l = folded_after l.operator l.found (values_of (expr_views (drop l.operand-index l.more))) l.env ≡ folded_all l.operator (expr_views l.operands) l.env

abbrev pub invariant-size_after-loop-selector : goal.invariant-size_after-loop-selector
invariant-size_after-loop-selector l = sized (selector_views (drop l.selector-index l.selectors)) l.env l.found ≡ sized (selector_views l.selectors) l.env l.fn.size
