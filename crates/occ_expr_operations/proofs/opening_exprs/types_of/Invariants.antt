use Rattle.std.proofs.Common.{◌≡◌, ◌++◌, drop}
use Rattle.occ_expr_operations.specs.OpenExprs.{types_of as spec_types_of}
use Rattle.occ_expr_operations.proofs.opening_exprs.types_of.Given as goal

abbrev pub invariant-loop-field : goal.invariant-loop-field
invariant-loop-field l = l.types ++ spec_types_of (drop l.field-index l.fields) ≡ spec_types_of l.fields
