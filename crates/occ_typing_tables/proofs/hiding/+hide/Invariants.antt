use Rattle.std.proofs.Common.{◌≡◌, ◌++◌, drop, map}
use Rattle.occ_typing_operands.specs.Operators.{kinds}
use Rattle.occ_typing_tables.specs.Terms.{hidden, hidden_faults, judged_all}
use Rattle.occ_typing_tables.proofs.hiding.+hide.Given as goal

abbrev pub invariant-each_hidden-loop-term : goal.invariant-each_hidden-loop-term
invariant-each_hidden-loop-term l =
    (l.kinds ++ kinds (map hidden (judged_all (drop l.term-index l.terms))) ≡ kinds (map hidden (judged_all l.terms)))
    × (l.faults ++ hidden_faults (judged_all (drop l.term-index l.terms)) ≡ l.initial.faults ++ hidden_faults (judged_all l.terms))
