use Rattle.std.proofs.Common.{◌≡◌, ◌++◌, drop}
use Rattle.occ_typing_operands.specs.Operators.{all_faults, kinds}
use Rattle.occ_typing_tables.specs.Terms.{judged_all}
use Rattle.occ_expr_operations.specs.Operations.{each_among as spec_each_among}
use Rattle.occ_expr_operations.proofs.operation.each_among.Given as goal

abbrev pub invariant-loop-term : goal.invariant-loop-term
invariant-loop-term l =
    (l.kinds ++ kinds (spec_each_among l.count (judged_all (drop l.term-index l.operands))) ≡ kinds (spec_each_among l.count (judged_all l.operands)))
    × (l.faults ++ all_faults (spec_each_among l.count (judged_all (drop l.term-index l.operands))) ≡ l.initial.faults ++ all_faults (spec_each_among l.count (judged_all l.operands)))
