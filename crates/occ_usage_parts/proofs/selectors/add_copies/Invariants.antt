use Rattle.std.proofs.Common.{◌≡◌, ◌++◌, take}
use Rattle.occ_usage_parts.proofs.selectors.add_copies.Given as goal

abbrev pub invariant-loop-selector : goal.invariant-loop-selector
invariant-loop-selector l = l.all ≡ l.initial.all ++ take l.selector-index l.selectors
