use Rattle.std.proofs.Common.{◌≡◌, ◌++◌, drop, false, map}
use Rattle.occ_typing_operands.specs.Operators.{all_faults, kinds}
use Rattle.occ_typing_tables.specs.Terms.{each_own_or_alone, first_settled, judged_all, others_from, settled_under}
use Rattle.occ_typing_tables.proofs.table.+judge.Given as goal

abbrev pub invariant-each_settled-loop-term : goal.invariant-each_settled-loop-term
invariant-each_settled-loop-term l = l.found ++ map (settled_under l.of) (judged_all (drop l.term-index l.terms)) ≡ map (settled_under l.of) (judged_all l.terms)

abbrev pub invariant-each_settled_after-loop-term : goal.invariant-each_settled_after-loop-term
invariant-each_settled_after-loop-term l = l.found ++ map (settled_under l.first.of) (judged_all (drop l.term-index l.terms)) ≡ map (settled_under l.first.of) (judged_all l.terms)

abbrev pub invariant-each_own_or_alone-loop-term : goal.invariant-each_own_or_alone-loop-term
invariant-each_own_or_alone-loop-term l =
    (l.kinds ++ kinds (each_own_or_alone l.from_outside l.has_own l.settled (judged_all (drop l.term-index l.terms))) ≡ kinds (each_own_or_alone l.from_outside l.has_own l.initial.settled (judged_all l.terms)))
    × (l.faults ++ all_faults (each_own_or_alone l.from_outside l.has_own l.settled (judged_all (drop l.term-index l.terms))) ≡ l.initial.faults ++ all_faults (each_own_or_alone l.from_outside l.has_own l.initial.settled (judged_all l.terms)))

abbrev pub invariant-first_settled-loop-item : goal.invariant-first_settled-loop-item
invariant-first_settled-loop-item l =
    (l.faults ≡ l.initial.faults) × (first_settled (judged_all (drop l.item-index l.items)) ≡ first_settled (judged_all l.items))

abbrev pub invariant-report_others-loop-item : goal.invariant-report_others-loop-item
invariant-report_others-loop-item l = l.faults ++ others_from l.is_after (judged_all (drop l.item-index l.items)) ≡ l.initial.faults ++ others_from false (judged_all l.items)
