use Rattle.std.proofs.Common.{◌≡◌, ◌++◌, drop}
use Rattle.occ_typing_tables.specs.Terms.{judged_all}
use Rattle.occ_typing_rules.specs.Choosing.{options}
use Rattle.occ_typing_rules.proofs.choose.options.Given as goal

abbrev pub invariant-loop-term : goal.invariant-loop-term
invariant-loop-term l =
    ((options l.of l.before (judged_all (drop l.term-index l.terms))).numbers ≡ (options l.of l.initial.before (judged_all l.terms)).numbers)
    × (l.faults ++ (options l.of l.before (judged_all (drop l.term-index l.terms))).faults ≡ l.initial.faults ++ (options l.of l.initial.before (judged_all l.terms)).faults)
