use Rattle.std.proofs.Common.{◌≡◌, drop}
use Rattle.occ_usage_values.specs.Views.{placed, selector_views}
use Rattle.occ_usage_values.proofs.placing.select_all.Given as goal

abbrev pub invariant-loop-selector : goal.invariant-loop-selector
invariant-loop-selector l = placed (selector_views (drop l.selector-index l.selectors)) l.env l.number l.place ≡ placed (selector_views l.selectors) l.env l.fn.size l.initial.place
