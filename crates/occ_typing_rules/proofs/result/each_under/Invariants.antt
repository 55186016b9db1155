use Rattle.std.proofs.Common.{◌≡◌, ◌++◌, drop}
use Rattle.occ_typing_tables.specs.Terms.{judged_all}
use Rattle.occ_typing_rules.specs.Resulting.{each_under}
use Rattle.occ_typing_rules.proofs.result.each_under.Given as goal

abbrev pub invariant-loop-of : goal.invariant-loop-of
invariant-loop-of l = l.faults ++ each_under (drop l.of-index l.types) (judged_all l.terms) ≡ l.initial.faults ++ each_under l.types (judged_all l.initial.terms)
