use Rattle.std.proofs.Common.{◌≡◌, ◌++◌, drop}
use Rattle.occ_expr_operations.specs.OpenExprs.{formal_types as types_of_formals}
use Rattle.occ_expr_operations.proofs.calling.formal_types.Given as goal

abbrev pub invariant-loop-formal : goal.invariant-loop-formal
invariant-loop-formal l = l.types ++ types_of_formals (drop l.formal-index l.formals) ≡ types_of_formals l.formals
