use Rattle.std.proofs.Common.{◌≡◌, ◌++◌, ◌||◌, drop, map}
use Rattle.occ_typing_operands.specs.Operators.{all_faults}
use Rattle.occ_typing_rules.specs.Numbering.{any_faulty}
use Rattle.occ_typing_tables.specs.Terms.{alone, judged_all}
use Rattle.occ_typing_rules.proofs.count.values_held.Given as goal

abbrev pub invariant-loop-term : goal.invariant-loop-term
invariant-loop-term l =
    ((l.found || any_faulty (map alone (judged_all (drop l.term-index l.terms)))) ≡ any_faulty (map alone (judged_all l.terms)))
    × (l.faults ++ all_faults (map alone (judged_all (drop l.term-index l.terms))) ≡ l.initial.faults ++ all_faults (map alone (judged_all l.terms)))
