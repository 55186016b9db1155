use Rattle.std.proofs.Common.{◌≡◌, drop, map, max}
use Rattle.occ_forms_expressions.specs.Depth.{dimension_dimensions, expr_dimensions, greatest, operand_dimensions}
use Rattle.occ_forms_expressions.proofs.depth.+depth.Given as goal

abbrev pub invariant-exprs_have_many_dimensions-loop-expr : goal.invariant-exprs_have_many_dimensions-loop-expr
invariant-exprs_have_many_dimensions-loop-expr l = max 64 (greatest (map expr_dimensions (drop l.expr-index l.exprs))) ≡ max 64 (greatest (map expr_dimensions l.exprs))

abbrev pub invariant-operands_have_many_dimensions-loop-operand : goal.invariant-operands_have_many_dimensions-loop-operand
invariant-operands_have_many_dimensions-loop-operand l = max 64 (greatest (map operand_dimensions (drop l.operand-index l.operands))) ≡ max 64 (greatest (map operand_dimensions l.operands))

abbrev pub invariant-sizes_have_many_dimensions-loop-dimension : goal.invariant-sizes_have_many_dimensions-loop-dimension
invariant-sizes_have_many_dimensions-loop-dimension l = max 64 (greatest (map dimension_dimensions (drop l.dimension-index l.dimensions))) ≡ max 64 (greatest (map dimension_dimensions l.dimensions))
