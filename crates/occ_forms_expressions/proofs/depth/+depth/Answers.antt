use Rattle.std.proofs.Common.{arith, refl}
use Rattle.std.proofs.lemmas.Bool.{false≢true}
use Rattle.occ_forms_expressions.specs.Depth.{dimension_dimensions, expr_dimensions, operand_dimensions}
use Rattle.occ_forms_expressions.proofs.Counts.{bounds_for_count, bounds_from_count, bounds_from_for_count, builtin_any_channel_count, builtin_channel_count, builtin_counted_count, builtin_primitive_count, builtin_timer_count, dimension_open_count, dimension_sized_count, element_named_count, element_segment_count, expr_alone_count, expr_applied_count, expr_array_converted_count, expr_converted_count, expr_most_count, expr_named_count, expr_pair_count, expr_run_count, named_operand_call_count, named_operand_decorated_count, named_operand_decorated_table_count, named_operand_element_count, named_operand_literal_count, named_operand_table_count, named_operand_truth_count, operand_call_count, operand_decorated_count, operand_decorated_table_count, operand_element_count, operand_literal_count, operand_parens_count, operand_table_count, operand_truth_count, type_form_builtin_count, type_form_named_count}
use Rattle.occ_forms_expressions.proofs.Greatest.{large, none, small}
use Rattle.occ_forms_expressions.proofs.depth.+depth.Goals as goal

pub bounds_have_many_dimensions-returns-then-expr_has_many_dimensions : goal.bounds_have_many_dimensions-returns-then-expr_has_many_dimensions
bounds_have_many_dimensions-returns-then-expr_has_many_dimensions t c = grind (arith, bounds_from_for_count)

pub bounds_have_many_dimensions-returns-else-expr_has_many_dimensions : goal.bounds_have_many_dimensions-returns-else-expr_has_many_dimensions
bounds_have_many_dimensions-returns-else-expr_has_many_dimensions t c = grind (arith, bounds_from_for_count)

pub bounds_have_many_dimensions-returns-in-From : goal.bounds_have_many_dimensions-returns-in-From
bounds_have_many_dimensions-returns-in-From t c = grind (arith, bounds_from_count, bounds_for_count)

pub builtin_has_many_dimensions-returns-in-Channel : goal.builtin_has_many_dimensions-returns-in-Channel
builtin_has_many_dimensions-returns-in-Channel t c = grind (arith, builtin_channel_count)

pub builtin_has_many_dimensions-returns-then-len-gt63 : goal.builtin_has_many_dimensions-returns-then-len-gt63
builtin_has_many_dimensions-returns-then-len-gt63 t c = grind (arith, builtin_counted_count)

pub builtin_has_many_dimensions-returns-else-len-gt63 : goal.builtin_has_many_dimensions-returns-else-len-gt63
builtin_has_many_dimensions-returns-else-len-gt63 t c = grind (arith, builtin_counted_count)

pub builtin_has_many_dimensions-returns-in-Primitive : goal.builtin_has_many_dimensions-returns-in-Primitive
builtin_has_many_dimensions-returns-in-Primitive t c = grind (arith, builtin_primitive_count, builtin_timer_count, builtin_any_channel_count)

pub builtin_has_many_dimensions-returns-in-Primitive-2 : goal.builtin_has_many_dimensions-returns-in-Primitive-2
builtin_has_many_dimensions-returns-in-Primitive-2 t c = grind (arith, builtin_primitive_count, builtin_timer_count, builtin_any_channel_count)

pub builtin_has_many_dimensions-returns-in-Primitive-3 : goal.builtin_has_many_dimensions-returns-in-Primitive-3
builtin_has_many_dimensions-returns-in-Primitive-3 t c = grind (arith, builtin_primitive_count, builtin_timer_count, builtin_any_channel_count)

pub dimension_has_many_dimensions-returns-in-Open : goal.dimension_has_many_dimensions-returns-in-Open
dimension_has_many_dimensions-returns-in-Open t c = grind (arith, dimension_open_count)

pub dimension_has_many_dimensions-returns-in-Sized : goal.dimension_has_many_dimensions-returns-in-Sized
dimension_has_many_dimensions-returns-in-Sized t c = grind (arith, dimension_sized_count)

pub element_has_many_dimensions-returns-in-Named : goal.element_has_many_dimensions-returns-in-Named
element_has_many_dimensions-returns-in-Named t c = grind (arith, element_named_count)

pub element_has_many_dimensions-returns-then-bounds_have_many_dimensions : goal.element_has_many_dimensions-returns-then-bounds_have_many_dimensions
element_has_many_dimensions-returns-then-bounds_have_many_dimensions t c = grind (arith, element_segment_count)

pub element_has_many_dimensions-returns-else-bounds_have_many_dimensions : goal.element_has_many_dimensions-returns-else-bounds_have_many_dimensions
element_has_many_dimensions-returns-else-bounds_have_many_dimensions t c = grind (arith, element_segment_count)

pub expr_has_many_dimensions-returns-then-operand_has_many_dimensions-2 : goal.expr_has_many_dimensions-returns-then-operand_has_many_dimensions-2
expr_has_many_dimensions-returns-then-operand_has_many_dimensions-2 t c = grind (arith, expr_run_count, expr_pair_count)

pub expr_has_many_dimensions-returns-else-operand_has_many_dimensions-2 : goal.expr_has_many_dimensions-returns-else-operand_has_many_dimensions-2
expr_has_many_dimensions-returns-else-operand_has_many_dimensions-2 t c = grind (arith, expr_run_count, expr_pair_count)

pub expr_has_many_dimensions-returns-then-operand_has_many_dimensions-3 : goal.expr_has_many_dimensions-returns-then-operand_has_many_dimensions-3
expr_has_many_dimensions-returns-then-operand_has_many_dimensions-3 t c = grind (arith, expr_run_count, expr_pair_count)

pub expr_has_many_dimensions-returns-else-operand_has_many_dimensions-3 : goal.expr_has_many_dimensions-returns-else-operand_has_many_dimensions-3
expr_has_many_dimensions-returns-else-operand_has_many_dimensions-3 t c = grind (arith, expr_run_count, expr_pair_count)

pub expr_has_many_dimensions-returns-then-builtin_has_many_dimensions : goal.expr_has_many_dimensions-returns-then-builtin_has_many_dimensions
expr_has_many_dimensions-returns-then-builtin_has_many_dimensions t c = grind (arith, expr_converted_count)

pub expr_has_many_dimensions-returns-else-builtin_has_many_dimensions : goal.expr_has_many_dimensions-returns-else-builtin_has_many_dimensions
expr_has_many_dimensions-returns-else-builtin_has_many_dimensions t c = grind (arith, expr_converted_count)

pub expr_has_many_dimensions-returns-then-sizes_have_many_dimensions : goal.expr_has_many_dimensions-returns-then-sizes_have_many_dimensions
expr_has_many_dimensions-returns-then-sizes_have_many_dimensions t c = grind (arith, expr_array_converted_count)

pub expr_has_many_dimensions-returns-else-sizes_have_many_dimensions : goal.expr_has_many_dimensions-returns-else-sizes_have_many_dimensions
expr_has_many_dimensions-returns-else-sizes_have_many_dimensions t c = grind (arith, expr_array_converted_count)

pub expr_has_many_dimensions-returns-in-Named : goal.expr_has_many_dimensions-returns-in-Named
expr_has_many_dimensions-returns-in-Named t c = grind (arith, expr_named_count)

pub expr_has_many_dimensions-returns-in-Most : goal.expr_has_many_dimensions-returns-in-Most
expr_has_many_dimensions-returns-in-Most t c = grind (arith, expr_most_count)

pub expr_has_many_dimensions-returns-in-Alone : goal.expr_has_many_dimensions-returns-in-Alone
expr_has_many_dimensions-returns-in-Alone t c = grind (arith, expr_alone_count, expr_applied_count)

pub named_operand_has_many_dimensions-returns-in-Element : goal.named_operand_has_many_dimensions-returns-in-Element
named_operand_has_many_dimensions-returns-in-Element t c = grind (arith, named_operand_element_count)

pub named_operand_has_many_dimensions-returns-in-Decorated : goal.named_operand_has_many_dimensions-returns-in-Decorated
named_operand_has_many_dimensions-returns-in-Decorated t c = grind (arith, named_operand_decorated_count)

pub named_operand_has_many_dimensions-returns-then-expr_has_many_dimensions-2 : goal.named_operand_has_many_dimensions-returns-then-expr_has_many_dimensions-2
named_operand_has_many_dimensions-returns-then-expr_has_many_dimensions-2 t c = grind (arith, named_operand_table_count)

pub named_operand_has_many_dimensions-returns-else-expr_has_many_dimensions-2 : goal.named_operand_has_many_dimensions-returns-else-expr_has_many_dimensions-2
named_operand_has_many_dimensions-returns-else-expr_has_many_dimensions-2 t c = grind (arith, named_operand_table_count)

pub named_operand_has_many_dimensions-returns-then-exprs_have_many_dimensions : goal.named_operand_has_many_dimensions-returns-then-exprs_have_many_dimensions
named_operand_has_many_dimensions-returns-then-exprs_have_many_dimensions t c = grind (arith, named_operand_decorated_table_count)

pub named_operand_has_many_dimensions-returns-else-exprs_have_many_dimensions : goal.named_operand_has_many_dimensions-returns-else-exprs_have_many_dimensions
named_operand_has_many_dimensions-returns-else-exprs_have_many_dimensions t c = grind (arith, named_operand_decorated_table_count)

pub named_operand_has_many_dimensions-returns-in-Call : goal.named_operand_has_many_dimensions-returns-in-Call
named_operand_has_many_dimensions-returns-in-Call t c = grind (arith, named_operand_call_count)

pub named_operand_has_many_dimensions-returns-in-Literal : goal.named_operand_has_many_dimensions-returns-in-Literal
named_operand_has_many_dimensions-returns-in-Literal t c = grind (arith, named_operand_literal_count, named_operand_truth_count)

pub named_operand_has_many_dimensions-returns-in-Literal-2 : goal.named_operand_has_many_dimensions-returns-in-Literal-2
named_operand_has_many_dimensions-returns-in-Literal-2 t c = grind (arith, named_operand_literal_count, named_operand_truth_count)

pub operand_has_many_dimensions-returns-in-Element : goal.operand_has_many_dimensions-returns-in-Element
operand_has_many_dimensions-returns-in-Element t c = grind (arith, operand_element_count)

pub operand_has_many_dimensions-returns-in-Decorated : goal.operand_has_many_dimensions-returns-in-Decorated
operand_has_many_dimensions-returns-in-Decorated t c = grind (arith, operand_decorated_count)

pub operand_has_many_dimensions-returns-in-Parens : goal.operand_has_many_dimensions-returns-in-Parens
operand_has_many_dimensions-returns-in-Parens t c = grind (arith, operand_parens_count)

pub operand_has_many_dimensions-returns-then-expr_has_many_dimensions : goal.operand_has_many_dimensions-returns-then-expr_has_many_dimensions
operand_has_many_dimensions-returns-then-expr_has_many_dimensions t c = grind (arith, operand_table_count)

pub operand_has_many_dimensions-returns-else-expr_has_many_dimensions : goal.operand_has_many_dimensions-returns-else-expr_has_many_dimensions
operand_has_many_dimensions-returns-else-expr_has_many_dimensions t c = grind (arith, operand_table_count)

pub operand_has_many_dimensions-returns-then-exprs_have_many_dimensions : goal.operand_has_many_dimensions-returns-then-exprs_have_many_dimensions
operand_has_many_dimensions-returns-then-exprs_have_many_dimensions t c = grind (arith, operand_decorated_table_count)

pub operand_has_many_dimensions-returns-else-exprs_have_many_dimensions : goal.operand_has_many_dimensions-returns-else-exprs_have_many_dimensions
operand_has_many_dimensions-returns-else-exprs_have_many_dimensions t c = grind (arith, operand_decorated_table_count)

pub operand_has_many_dimensions-returns-in-Call : goal.operand_has_many_dimensions-returns-in-Call
operand_has_many_dimensions-returns-in-Call t c = grind (arith, operand_call_count)

pub operand_has_many_dimensions-returns-in-Literal : goal.operand_has_many_dimensions-returns-in-Literal
operand_has_many_dimensions-returns-in-Literal t c = grind (arith, operand_literal_count, operand_truth_count)

pub operand_has_many_dimensions-returns-in-Literal-2 : goal.operand_has_many_dimensions-returns-in-Literal-2
operand_has_many_dimensions-returns-in-Literal-2 t c = grind (arith, operand_literal_count, operand_truth_count)

pub type_form_has_many_dimensions-returns-in-Named : goal.type_form_has_many_dimensions-returns-in-Named
type_form_has_many_dimensions-returns-in-Named t c = grind (arith, type_form_named_count)

pub type_form_has_many_dimensions-returns-then-are_many_dimensions : goal.type_form_has_many_dimensions-returns-then-are_many_dimensions
type_form_has_many_dimensions-returns-then-are_many_dimensions t c = grind (arith, type_form_builtin_count)

pub type_form_has_many_dimensions-returns-else-are_many_dimensions : goal.type_form_has_many_dimensions-returns-else-are_many_dimensions
type_form_has_many_dimensions-returns-else-are_many_dimensions t c = grind (arith, type_form_builtin_count)

pub exprs_have_many_dimensions-returns-then-expr_has_many_dimensions : goal.exprs_have_many_dimensions-returns-then-expr_has_many_dimensions
exprs_have_many_dimensions-returns-then-expr_has_many_dimensions t c = (λ h. large expr_dimensions _ _ _ c.loop-expr-test.true c.expr-item.is c.loop-expr.invariant (c.expr_has_many_dimensions.ensures.0 c.if-expr_has_many_dimensions.true), λ h. refl)

pub exprs_have_many_dimensions-loop-expr-preserved : goal.exprs_have_many_dimensions-loop-expr-preserved
exprs_have_many_dimensions-loop-expr-preserved t c = small expr_dimensions _ _ _ _ c.loop-expr-test.true c.expr-item.is c.loop-expr.invariant c.expr_has_many_dimensions.ensures c.if-expr_has_many_dimensions.false

pub exprs_have_many_dimensions-returns : goal.exprs_have_many_dimensions-returns
exprs_have_many_dimensions-returns t c = (λ h. absurd (false≢true h), λ h. absurd (none expr_dimensions _ _ c.loop-expr-test.false c.loop-expr.invariant h))

pub operands_have_many_dimensions-returns-then-operand_has_many_dimensions : goal.operands_have_many_dimensions-returns-then-operand_has_many_dimensions
operands_have_many_dimensions-returns-then-operand_has_many_dimensions t c = (λ h. large operand_dimensions _ _ _ c.loop-operand-test.true c.operand-item.is c.loop-operand.invariant (c.operand_has_many_dimensions.ensures.0 c.if-operand_has_many_dimensions.true), λ h. refl)

pub operands_have_many_dimensions-loop-operand-preserved : goal.operands_have_many_dimensions-loop-operand-preserved
operands_have_many_dimensions-loop-operand-preserved t c = small operand_dimensions _ _ _ _ c.loop-operand-test.true c.operand-item.is c.loop-operand.invariant c.operand_has_many_dimensions.ensures c.if-operand_has_many_dimensions.false

pub operands_have_many_dimensions-returns : goal.operands_have_many_dimensions-returns
operands_have_many_dimensions-returns t c = (λ h. absurd (false≢true h), λ h. absurd (none operand_dimensions _ _ c.loop-operand-test.false c.loop-operand.invariant h))

pub sizes_have_many_dimensions-returns-then-dimension_has_many_dimensions : goal.sizes_have_many_dimensions-returns-then-dimension_has_many_dimensions
sizes_have_many_dimensions-returns-then-dimension_has_many_dimensions t c = (λ h. large dimension_dimensions _ _ _ c.loop-dimension-test.true c.dimension-item.is c.loop-dimension.invariant (c.dimension_has_many_dimensions.ensures.0 c.if-dimension_has_many_dimensions.true), λ h. refl)

pub sizes_have_many_dimensions-loop-dimension-preserved : goal.sizes_have_many_dimensions-loop-dimension-preserved
sizes_have_many_dimensions-loop-dimension-preserved t c = small dimension_dimensions _ _ _ _ c.loop-dimension-test.true c.dimension-item.is c.loop-dimension.invariant c.dimension_has_many_dimensions.ensures c.if-dimension_has_many_dimensions.false

pub sizes_have_many_dimensions-returns : goal.sizes_have_many_dimensions-returns
sizes_have_many_dimensions-returns t c = (λ h. absurd (false≢true h), λ h. absurd (none dimension_dimensions _ _ c.loop-dimension-test.false c.loop-dimension.invariant h))
