use Rattle.std.proofs.Common.{◌≡◌, ◌++◌, drop}
use Rattle.occ_check.specs.Codes.{selectors_code as reported}
use Rattle.occ_check.proofs.code.push_selectors.Given as goal

abbrev pub invariant-loop-selector : goal.invariant-loop-selector
invariant-loop-selector l = l.numbers ++ reported (drop l.selector-index l.selectors) ≡ l.initial.numbers ++ reported l.selectors
