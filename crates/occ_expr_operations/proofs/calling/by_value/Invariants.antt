use Rattle.std.proofs.Common.{◌≡◌, ◌++◌, drop}
use Rattle.occ_expr_operations.specs.OpenExprs.{by_value as each_by_value}
use Rattle.occ_expr_operations.proofs.calling.by_value.Given as goal

abbrev pub invariant-loop-value : goal.invariant-loop-value
invariant-loop-value l = l.actuals ++ each_by_value (drop l.value-index l.values) ≡ each_by_value l.values
