use Rattle.std.proofs.Common.{◌≡◌, ◌++◌, drop}
use Rattle.occ_usage_lines.specs.Entering.{entry_bounds as reported}
use Rattle.occ_usage_lines.proofs.entering.enter_all.Given as goal

abbrev pub invariant-loop-entry : goal.invariant-loop-entry
invariant-loop-entry l = l.env ++ reported (drop l.entry-index l.entries) ≡ l.initial.env ++ reported l.entries
