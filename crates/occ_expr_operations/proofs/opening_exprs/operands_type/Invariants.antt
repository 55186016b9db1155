use Rattle.std.proofs.Common.{◌≡◌, drop}
use Rattle.occ_expr_operations.specs.OpenExprs.{operands_type as type_of_operands}
use Rattle.occ_expr_operations.proofs.opening_exprs.operands_type.Given as goal

abbrev pub invariant-loop-operand : goal.invariant-loop-operand
invariant-loop-operand l = type_of_operands (drop l.operand-index l.operands) ≡ type_of_operands l.operands
