use Rattle.std.proofs.Common.{◌≡◌, drop}
use Rattle.occ_usage_parts.specs.Parts.{has_empty}
use Rattle.occ_usage_parts.proofs.comparing.hold_nothing.Given as goal

abbrev pub invariant-loop-selector : goal.invariant-loop-selector
invariant-loop-selector l = has_empty (drop l.selector-index l.selectors) ≡ has_empty l.selectors
