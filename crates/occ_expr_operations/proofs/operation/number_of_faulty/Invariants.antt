use Rattle.std.proofs.Common.{◌≡◌, ◌≤◌, ◌+◌, drop}
use Rattle.occ_expr_operations.specs.Operations.{number_of_faulty as spec_number_of_faulty}
use Rattle.occ_typing_tables.specs.Terms.{judged_all}
use Rattle.occ_expr_operations.proofs.operation.number_of_faulty.Given as goal

abbrev pub invariant-loop-operand : goal.invariant-loop-operand
invariant-loop-operand l =
    (l.count ≤ l.operand-index)
    × (l.count + spec_number_of_faulty (judged_all (drop l.operand-index l.operands)) ≡ spec_number_of_faulty (judged_all l.operands))
