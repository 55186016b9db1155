use Rattle.std.proofs.Common.{◌≡◌, drop}
use Rattle.std.specs.List.{list_any}
use Rattle.occ_typing_tables.specs.Terms.{has_fault, judged_all}
use Rattle.occ_typing_tables.proofs.placing.+faulty.Given as goal

abbrev pub invariant-any_has_fault-loop-item : goal.invariant-any_has_fault-loop-item
invariant-any_has_fault-loop-item l = list_any has_fault (judged_all (drop l.item-index l.items)) ≡ list_any has_fault (judged_all l.items)
