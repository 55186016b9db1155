use Rattle.std.proofs.Common.{◌≡◌, drop}
use Rattle.occ_usage_conflicts.specs.inside.Numbering.{with_selectors}
use Rattle.occ_usage_conflicts.proofs.numbering.with_selectors.Given as goal

abbrev pub invariant-loop-selector : goal.invariant-loop-selector
invariant-loop-selector l = with_selectors l.number (drop l.selector-index l.selectors) ≡ with_selectors l.seed l.selectors
