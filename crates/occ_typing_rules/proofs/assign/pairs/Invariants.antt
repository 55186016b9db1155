use Rattle.std.proofs.Common.{◌≡◌, ◌++◌, drop}
use Rattle.occ_typing_tables.specs.Terms.{judged_all}
use Rattle.occ_typing_rules.specs.Assigning.{pairs}
use Rattle.occ_typing_rules.proofs.assign.pairs.Given as goal

abbrev pub invariant-loop-target : goal.invariant-loop-target
invariant-loop-target l = l.faults ++ pairs (drop l.target-index l.targets) (judged_all l.values) ≡ l.initial.faults ++ pairs l.targets (judged_all l.initial.values)
