use Rattle.std.proofs.Common.{◌≡◌, ◌++◌, ◌||◌, drop, map}
use Rattle.occ_typing_operands.specs.Operators.{all_faults}
use Rattle.occ_typing_rules.specs.Abbreviating.{holding}
use Rattle.occ_typing_rules.specs.Numbering.{any_faulty}
use Rattle.occ_typing_rules.proofs.count.targets_held.Given as goal

abbrev pub invariant-loop-target : goal.invariant-loop-target
invariant-loop-target l =
    ((l.found || any_faulty (map holding (drop l.target-index l.targets))) ≡ any_faulty (map holding l.targets))
    × (l.faults ++ all_faults (map holding (drop l.target-index l.targets)) ≡ l.initial.faults ++ all_faults (map holding l.targets))
