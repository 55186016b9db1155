use Rattle.std.proofs.Common.{arith, ◌∙◌, ◌++◌, ◌∷◌, [], Some, ap, refl, sym}
use Rattle.std.proofs.lemmas.Grind.{common_steps}
use Rattle.occ_forms_expressions.specs.declared.tree.Builtin.TheVariants as uv
use Rattle.occ_forms_expressions.specs.declared.tree.Element.TheVariants as ev
use Rattle.occ_forms_expressions.specs.declared.tree.Expr.TheVariants as xv
use Rattle.occ_forms_expressions.specs.declared.tree.NamedOperand.TheVariants as nv
use Rattle.occ_forms_expressions.specs.declared.tree.Operand.TheVariants as ov
use Rattle.occ_forms_expressions.specs.declared.tree.TypeForm.TheVariants as tv
use Rattle.occ_expr_operations.specs.Elements.{selector}
use Rattle.occ_expr_operations.specs.Parts.{after_a_fault, call, component, function_call, in_scope, named_element, no_call, part, subscript, terms, whole_element}
use Rattle.occ_expr_operations.specs.Views.{call_open, expr_views, named_tree, operand_views, operands, whole_element_open}
use Rattle.occ_expr_operations.specs.Written.{array_after, channel, data_form}
use Rattle.occ_expr_operations.proofs.Fields.{front_rules}
use Rattle.occ_expr.proofs.Walking as step
use Rattle.occ_expr_operations.proofs.Views.{bounds_for_said, bounds_for_tree, bounds_from_for_said, bounds_from_for_tree, bounds_from_said, bounds_from_tree, builtin_any_channel_view, builtin_channel_view, builtin_primitive_view, builtin_timer_view, dimension_open_view, dimension_sized_view, element_named_reported, element_named_tree, element_named_whole, element_named_whole_open, element_segment_reported, element_segment_tree, element_segment_whole, element_segment_whole_open, expr_alone_open, expr_alone_said, expr_applied_open, expr_applied_said, expr_array_converted_open, expr_array_converted_said, expr_converted_open, expr_converted_said, expr_most_open, expr_most_said, expr_named_open, expr_named_said, expr_pair_open, expr_pair_said, expr_run_open, expr_run_said, named_operand_call_open, named_operand_call_said, named_operand_decorated_open, named_operand_decorated_said, named_operand_decorated_table_open, named_operand_decorated_table_said, named_operand_element_open, named_operand_element_said, named_operand_literal_said, named_operand_table_open, named_operand_table_said, named_operand_truth_said, operand_call_open, operand_call_said, operand_call_whole, operand_call_whole_open, operand_decorated_open, operand_decorated_said, operand_decorated_table_open, operand_decorated_table_said, operand_decorated_table_whole, operand_decorated_table_whole_open, operand_decorated_whole, operand_decorated_whole_open, operand_element_open, operand_element_said, operand_element_whole, operand_element_whole_open, operand_literal_open, operand_literal_said, operand_literal_whole, operand_literal_whole_open, operand_parens_open, operand_parens_said, operand_parens_whole, operand_parens_whole_open, operand_table_open, operand_table_said, operand_table_whole, operand_table_whole_open, operand_truth_open, operand_truth_said, operand_truth_whole, operand_truth_whole_open, type_form_builtin_view}
use Rattle.occ_expr.proofs.Decimals.{decimal_selects, decimal_tree}
use Rattle.occ_expr.proofs.walk.+walk.Goals as goal

pub known_type_form-returns-in_ok-of-in-Named-clause-faults : goal.known_type_form-returns-in_ok-of-in-Named-clause-faults
known_type_form-returns-in_ok-of-in-Named-clause-faults t c =
    step.named_type_faults c.known_array_over.result _ _ _ _ _ _ _ _ _ _ (c.in-Named.is ∙ ap (λ z. tv.Named z c.in-Named.name) (sym c.as_slice.ensures)) c.in_ok-of-in-Named.ensures.faults c.in_ok-of-in-Named.ensures.found c.new.ensures c.known_array_over.ensures.faults

pub known_type_form-returns-in_ok-of-in-Named-clause-found : goal.known_type_form-returns-in_ok-of-in-Named-clause-found
known_type_form-returns-in_ok-of-in-Named-clause-found t c =
    step.named_type_found c.known_array_over.result _ _ _ _ _ _ _ (c.in-Named.is ∙ ap (λ z. tv.Named z c.in-Named.name) (sym c.as_slice.ensures)) c.in_ok-of-in-Named.ensures.found c.new.ensures c.known_array_over.ensures.found

pub known_type_form-returns-in_ok-of-in-Builtin-clause-faults : goal.known_type_form-returns-in_ok-of-in-Builtin-clause-faults
known_type_form-returns-in_ok-of-in-Builtin-clause-faults t c =
    step.built_in_type_faults c.known_array_over-in-Builtin.result _ _ _ _ _ _ _ _ _ _ (c.in-Builtin.is ∙ ap (λ z. tv.Builtin z c.in-Builtin.word) (sym c.as_slice-in-Builtin.ensures) ∙ ap (λ z. tv.Builtin c.as_slice-in-Builtin.result.now z) (sym c.get.ensures)) c.in_ok-of-in-Builtin.ensures.faults (c.in_ok-of-in-Builtin.ensures.found) c.new-in-Builtin.ensures c.known_array_over-in-Builtin.ensures.faults

pub builtin-returns-in-Channel-clause-found : goal.builtin-returns-in-Channel-clause-found
builtin-returns-in-Channel-clause-found t c =
    step.channel_found c.channel.result _ _ _ _ _ (c.in-Channel.is ∙ ap (λ z. uv.Channel c.in-Channel.field-0 z c.in-Channel.base) (sym c.as_slice.ensures)) c.channel.ensures.found

pub builtin-returns-in_ok-of-in-Counted-clause-found : goal.builtin-returns-in_ok-of-in-Counted-clause-found
builtin-returns-in_ok-of-in-Counted-clause-found t c =
    step.counted_found c.counted_type.result _ _ _ _ _ _ _ _ _ _ (c.in-Counted.is ∙ ap (λ z. uv.Counted c.in-Counted.field-0 z c.in-Counted.base c.in-Counted.others c.in-Counted.other) (sym c.as_slice-in-Counted.ensures) ∙ ap (λ z. uv.Counted c.in-Counted.field-0 c.as_slice-in-Counted.result.now c.in-Counted.base z c.in-Counted.other) (sym c.as_slice-in-Counted-2.ensures)) c.in_ok-count-in-Counted.ensures.found c.in_ok-count-in-Counted-2.ensures.found c.in_ok-of-in-Counted.ensures.found c.counted_type.ensures

pub builtin-returns-in_ok-of-in-Counted-clause-faults : goal.builtin-returns-in_ok-of-in-Counted-clause-faults
builtin-returns-in_ok-of-in-Counted-clause-faults t c =
    step.whatever c.counted_type.result (step.counted_faults _ _ _ _ _ _ _ _ _ _ _ _ (c.in-Counted.is ∙ ap (λ z. uv.Counted c.in-Counted.field-0 z c.in-Counted.base c.in-Counted.others c.in-Counted.other) (sym c.as_slice-in-Counted.ensures) ∙ ap (λ z. uv.Counted c.in-Counted.field-0 c.as_slice-in-Counted.result.now c.in-Counted.base z c.in-Counted.other) (sym c.as_slice-in-Counted-2.ensures)) c.in_ok-count-in-Counted.ensures.faults c.in_ok-count-in-Counted.ensures.found c.in_ok-count-in-Counted-2.ensures.faults c.in_ok-of-in-Counted.ensures.faults)

pub operand-returns-in_ok-more_items-in-Table-clause-faults : goal.operand-returns-in_ok-more_items-in-Table-clause-faults
operand-returns-in_ok-more_items-in-Table-clause-faults t c =
    step.table_faults _ _ _ _ _ _ _ (c.in-Table.is ∙ ap (λ z. ov.Table z c.in-Table.more) (sym c.get-in-Table.ensures) ∙ ap (λ z. ov.Table c.get-in-Table.result.now z) (sym c.as_slice.ensures)) c.in_ok-items-in-Table.ensures.faults c.in_ok-more_items-in-Table.ensures.faults

pub named_operand-returns-in_ok-more_items-in-Table-clause-faults : goal.named_operand-returns-in_ok-more_items-in-Table-clause-faults
named_operand-returns-in_ok-more_items-in-Table-clause-faults t c =
    step.named_table_faults _ _ _ _ _ _ _ _ _ (c.in-Table.is ∙ ap (λ z. nv.Table z c.in-Table.second c.in-Table.more) (sym c.get-in-Table.ensures) ∙ ap (λ z. nv.Table c.get-in-Table.result.now z c.in-Table.more) (sym c.get-in-Table-2.ensures) ∙ ap (λ z. nv.Table c.get-in-Table.result.now c.get-in-Table-2.result.now z) (sym c.as_slice.ensures)) c.in_ok-items-in-Table.ensures.faults c.in_ok-second-in-Table.ensures.faults c.in_ok-more_items-in-Table.ensures.faults

pub operand-returns-in_ok-to-in-DecoratedTable-clause-faults : goal.operand-returns-in_ok-to-in-DecoratedTable-clause-faults
operand-returns-in_ok-to-in-DecoratedTable-clause-faults t c =
    step.decorated_table_faults c.decorated_reading.result _ _ _ _ _ _ _ _ _ _ _ _ _ (c.in-DecoratedTable.is ∙ ap (λ z. ov.DecoratedTable z c.in-DecoratedTable.more c.in-DecoratedTable.of) (sym c.get-in-DecoratedTable.ensures) ∙ ap (λ z. ov.DecoratedTable c.get-in-DecoratedTable.result.now z c.in-DecoratedTable.of) (sym c.as_slice-in-DecoratedTable.ensures) ∙ ap (λ z. ov.DecoratedTable c.get-in-DecoratedTable.result.now c.as_slice-in-DecoratedTable.result.now z) (sym c.get-in-DecoratedTable-2.ensures)) c.in_ok-items-in-DecoratedTable.ensures.faults refl c.in_ok-more_items-in-DecoratedTable.ensures.faults (c.in_ok-more_items-in-DecoratedTable.ensures.terms ∙ ap (λ z. z ++ terms (in_scope c.args.scope.now (expr_views c.as_slice-in-DecoratedTable.result.now))) c.in_ok-items-in-DecoratedTable.ensures.terms) c.in_ok-to-in-DecoratedTable.ensures.faults c.in_ok-to-in-DecoratedTable.ensures.found c.decorated_reading.ensures.faults

pub named_operand-returns-in_ok-to-in-DecoratedTable-clause-faults : goal.named_operand-returns-in_ok-to-in-DecoratedTable-clause-faults
named_operand-returns-in_ok-to-in-DecoratedTable-clause-faults t c =
    step.named_decorated_table_faults c.decorated_reading.result _ _ _ _ _ _ _ _ _ _ _ _ _ (c.in-DecoratedTable.is ∙ ap (λ z. nv.DecoratedTable z c.in-DecoratedTable.more c.in-DecoratedTable.of) (sym c.get-in-DecoratedTable.ensures) ∙ ap (λ z. nv.DecoratedTable c.get-in-DecoratedTable.result.now z c.in-DecoratedTable.of) (sym c.as_slice-in-DecoratedTable.ensures) ∙ ap (λ z. nv.DecoratedTable c.get-in-DecoratedTable.result.now c.as_slice-in-DecoratedTable.result.now z) (sym c.get-in-DecoratedTable-2.ensures)) c.in_ok-items-in-DecoratedTable.ensures.faults refl c.in_ok-more_items-in-DecoratedTable.ensures.faults (c.in_ok-more_items-in-DecoratedTable.ensures.terms ∙ ap (λ z. z ++ terms (in_scope c.args.scope.now (expr_views c.as_slice-in-DecoratedTable.result.now))) c.in_ok-items-in-DecoratedTable.ensures.terms) c.in_ok-to-in-DecoratedTable.ensures.faults c.in_ok-to-in-DecoratedTable.ensures.found c.decorated_reading.ensures.faults

pub expression-returns-in-Alone-clause-term : goal.expression-returns-in-Alone-clause-term
expression-returns-in-Alone-clause-term t c = grind (arith, common_steps, expr_alone_said)

pub expression-returns-in-Alone-clause-faults : goal.expression-returns-in-Alone-clause-faults
expression-returns-in-Alone-clause-faults t c = grind (arith, common_steps, expr_alone_said)

pub expression-returns-in-Alone-clause-open_expr : goal.expression-returns-in-Alone-clause-open_expr
expression-returns-in-Alone-clause-open_expr t c = grind (arith, common_steps, expr_alone_open)

pub composed-returns-in-Alone-clause-term : goal.composed-returns-in-Alone-clause-term
composed-returns-in-Alone-clause-term t c = grind (arith, common_steps, expr_alone_said)

pub composed-returns-in-Alone-clause-faults : goal.composed-returns-in-Alone-clause-faults
composed-returns-in-Alone-clause-faults t c = grind (arith, common_steps, expr_alone_said)

pub composed-returns-in-Alone-clause-open_expr : goal.composed-returns-in-Alone-clause-open_expr
composed-returns-in-Alone-clause-open_expr t c = grind (arith, common_steps, expr_alone_open)

pub composed-returns-in-Applied-clause-term : goal.composed-returns-in-Applied-clause-term
composed-returns-in-Applied-clause-term t c = grind (arith, common_steps)

pub composed-returns-in-Applied-clause-open_expr : goal.composed-returns-in-Applied-clause-open_expr
composed-returns-in-Applied-clause-open_expr t c = grind (arith, common_steps)

pub composed-returns-in-Applied-clause-faults : goal.composed-returns-in-Applied-clause-faults
composed-returns-in-Applied-clause-faults t c = grind (arith, common_steps)

pub composed-returns-in-Named-clause-term : goal.composed-returns-in-Named-clause-term
composed-returns-in-Named-clause-term t c = grind (arith, common_steps)

pub composed-returns-in-Named-clause-open_expr : goal.composed-returns-in-Named-clause-open_expr
composed-returns-in-Named-clause-open_expr t c = grind (arith, common_steps)

pub composed-returns-in-Named-clause-faults : goal.composed-returns-in-Named-clause-faults
composed-returns-in-Named-clause-faults t c = grind (arith, common_steps)

pub composed-returns-in-Most-clause-term : goal.composed-returns-in-Most-clause-term
composed-returns-in-Most-clause-term t c = grind (arith, common_steps)

pub composed-returns-in-Most-clause-open_expr : goal.composed-returns-in-Most-clause-open_expr
composed-returns-in-Most-clause-open_expr t c = grind (arith, common_steps)

pub composed-returns-in-Most-clause-faults : goal.composed-returns-in-Most-clause-faults
composed-returns-in-Most-clause-faults t c = grind (arith, common_steps)

pub applied_reading-returns-clause-term : goal.applied_reading-returns-clause-term
applied_reading-returns-clause-term t c = grind (arith, common_steps, expr_applied_said)

pub applied_reading-returns-clause-faults : goal.applied_reading-returns-clause-faults
applied_reading-returns-clause-faults t c = grind (arith, common_steps, expr_applied_said)

pub applied_reading-returns-clause-open_expr : goal.applied_reading-returns-clause-open_expr
applied_reading-returns-clause-open_expr t c = grind (arith, common_steps, expr_applied_open)

pub named_reading-returns-clause-term : goal.named_reading-returns-clause-term
named_reading-returns-clause-term t c = grind (arith, common_steps, expr_named_said)

pub named_reading-returns-clause-faults : goal.named_reading-returns-clause-faults
named_reading-returns-clause-faults t c = grind (arith, common_steps, expr_named_said)

pub named_reading-returns-clause-open_expr : goal.named_reading-returns-clause-open_expr
named_reading-returns-clause-open_expr t c = grind (arith, common_steps, expr_named_open)

pub most_reading-returns-clause-term : goal.most_reading-returns-clause-term
most_reading-returns-clause-term t c = grind (arith, common_steps, expr_most_said)

pub most_reading-returns-clause-faults : goal.most_reading-returns-clause-faults
most_reading-returns-clause-faults t c = grind (arith, common_steps, expr_most_said)

pub most_reading-returns-clause-open_expr : goal.most_reading-returns-clause-open_expr
most_reading-returns-clause-open_expr t c = grind (arith, common_steps, expr_most_open)

pub operand-returns-in-Element-clause-term : goal.operand-returns-in-Element-clause-term
operand-returns-in-Element-clause-term t c = grind (arith, common_steps, operand_element_said)

pub operand-returns-in-Element-clause-faults : goal.operand-returns-in-Element-clause-faults
operand-returns-in-Element-clause-faults t c = grind (arith, common_steps, operand_element_said)

pub operand-returns-in-Element-clause-open_expr : goal.operand-returns-in-Element-clause-open_expr
operand-returns-in-Element-clause-open_expr t c = grind (arith, common_steps, operand_element_open)

pub operand-returns-in-Literal-clause-faults : goal.operand-returns-in-Literal-clause-faults
operand-returns-in-Literal-clause-faults t c = grind (arith, common_steps, operand_literal_said)

pub operand-returns-in-Decorated-clause-term : goal.operand-returns-in-Decorated-clause-term
operand-returns-in-Decorated-clause-term t c = grind (arith, common_steps, operand_decorated_said)

pub operand-returns-in-Decorated-clause-faults : goal.operand-returns-in-Decorated-clause-faults
operand-returns-in-Decorated-clause-faults t c = grind (arith, common_steps, operand_decorated_said)

pub operand-returns-in-Decorated-clause-open_expr : goal.operand-returns-in-Decorated-clause-open_expr
operand-returns-in-Decorated-clause-open_expr t c = grind (arith, common_steps, operand_decorated_open)

pub operand-returns-in-Truth-clause-faults : goal.operand-returns-in-Truth-clause-faults
operand-returns-in-Truth-clause-faults t c = grind (arith, common_steps, operand_truth_said)

pub operand-returns-in-Parens-clause-term : goal.operand-returns-in-Parens-clause-term
operand-returns-in-Parens-clause-term t c = grind (arith, common_steps, operand_parens_said)

pub operand-returns-in-Parens-clause-faults : goal.operand-returns-in-Parens-clause-faults
operand-returns-in-Parens-clause-faults t c = grind (arith, common_steps, operand_parens_said)

pub operand-returns-in-Parens-clause-open_expr : goal.operand-returns-in-Parens-clause-open_expr
operand-returns-in-Parens-clause-open_expr t c = grind (arith, common_steps, operand_parens_open)

pub operand-returns-in-Call-clause-term : goal.operand-returns-in-Call-clause-term
operand-returns-in-Call-clause-term t c = grind (arith, common_steps, operand_call_said)

pub operand-returns-in-Call-clause-faults : goal.operand-returns-in-Call-clause-faults
operand-returns-in-Call-clause-faults t c = grind (arith, common_steps, operand_call_said)

pub operand-returns-in-Call-clause-open_expr : goal.operand-returns-in-Call-clause-open_expr
operand-returns-in-Call-clause-open_expr t c = grind (arith, common_steps, operand_call_open)

pub operand-returns-in_ok-more_items-in-Table-clause-term : goal.operand-returns-in_ok-more_items-in-Table-clause-term
operand-returns-in_ok-more_items-in-Table-clause-term t c = grind (arith, common_steps, operand_table_said)

pub operand-returns-in_ok-more_items-in-Table-clause-open_expr : goal.operand-returns-in_ok-more_items-in-Table-clause-open_expr
operand-returns-in_ok-more_items-in-Table-clause-open_expr t c = grind (arith, common_steps, operand_table_open)

pub operand-returns-in_ok-to-in-DecoratedTable-clause-term : goal.operand-returns-in_ok-to-in-DecoratedTable-clause-term
operand-returns-in_ok-to-in-DecoratedTable-clause-term t c = grind (arith, common_steps, operand_decorated_table_said)

pub operand-returns-in_ok-to-in-DecoratedTable-clause-open_expr : goal.operand-returns-in_ok-to-in-DecoratedTable-clause-open_expr
operand-returns-in_ok-to-in-DecoratedTable-clause-open_expr t c = grind (arith, common_steps, operand_decorated_table_open)

pub named_operand-returns-in-Element-clause-term : goal.named_operand-returns-in-Element-clause-term
named_operand-returns-in-Element-clause-term t c = grind (arith, common_steps, named_operand_element_said)

pub named_operand-returns-in-Element-clause-faults : goal.named_operand-returns-in-Element-clause-faults
named_operand-returns-in-Element-clause-faults t c = grind (arith, common_steps, named_operand_element_said)

pub named_operand-returns-in-Element-clause-open_expr : goal.named_operand-returns-in-Element-clause-open_expr
named_operand-returns-in-Element-clause-open_expr t c = grind (arith, common_steps, named_operand_element_open)

pub named_operand-returns-in-Literal-clause-faults : goal.named_operand-returns-in-Literal-clause-faults
named_operand-returns-in-Literal-clause-faults t c = grind (arith, common_steps, named_operand_literal_said)

pub named_operand-returns-in-Decorated-clause-term : goal.named_operand-returns-in-Decorated-clause-term
named_operand-returns-in-Decorated-clause-term t c = grind (arith, common_steps, named_operand_decorated_said)

pub named_operand-returns-in-Decorated-clause-faults : goal.named_operand-returns-in-Decorated-clause-faults
named_operand-returns-in-Decorated-clause-faults t c = grind (arith, common_steps, named_operand_decorated_said)

pub named_operand-returns-in-Decorated-clause-open_expr : goal.named_operand-returns-in-Decorated-clause-open_expr
named_operand-returns-in-Decorated-clause-open_expr t c = grind (arith, common_steps, named_operand_decorated_open)

pub named_operand-returns-in-Truth-clause-faults : goal.named_operand-returns-in-Truth-clause-faults
named_operand-returns-in-Truth-clause-faults t c = grind (arith, common_steps, named_operand_truth_said)

pub named_operand-returns-in-Call-clause-term : goal.named_operand-returns-in-Call-clause-term
named_operand-returns-in-Call-clause-term t c = grind (arith, common_steps, named_operand_call_said)

pub named_operand-returns-in-Call-clause-faults : goal.named_operand-returns-in-Call-clause-faults
named_operand-returns-in-Call-clause-faults t c = grind (arith, common_steps, named_operand_call_said)

pub named_operand-returns-in-Call-clause-open_expr : goal.named_operand-returns-in-Call-clause-open_expr
named_operand-returns-in-Call-clause-open_expr t c = grind (arith, common_steps, named_operand_call_open)

pub named_operand-returns-in_ok-more_items-in-Table-clause-term : goal.named_operand-returns-in_ok-more_items-in-Table-clause-term
named_operand-returns-in_ok-more_items-in-Table-clause-term t c = grind (arith, common_steps, named_operand_table_said)

pub named_operand-returns-in_ok-more_items-in-Table-clause-open_expr : goal.named_operand-returns-in_ok-more_items-in-Table-clause-open_expr
named_operand-returns-in_ok-more_items-in-Table-clause-open_expr t c = grind (arith, common_steps, named_operand_table_open)

pub named_operand-returns-in_ok-to-in-DecoratedTable-clause-term : goal.named_operand-returns-in_ok-to-in-DecoratedTable-clause-term
named_operand-returns-in_ok-to-in-DecoratedTable-clause-term t c = grind (arith, common_steps, named_operand_decorated_table_said)

pub named_operand-returns-in_ok-to-in-DecoratedTable-clause-open_expr : goal.named_operand-returns-in_ok-to-in-DecoratedTable-clause-open_expr
named_operand-returns-in_ok-to-in-DecoratedTable-clause-open_expr t c = grind (arith, common_steps, named_operand_decorated_table_open)

pub whole_operand-returns-in-Element-clause-term : goal.whole_operand-returns-in-Element-clause-term
whole_operand-returns-in-Element-clause-term t c = grind (arith, common_steps, operand_element_whole)

pub whole_operand-returns-in-Element-clause-faults : goal.whole_operand-returns-in-Element-clause-faults
whole_operand-returns-in-Element-clause-faults t c = grind (arith, common_steps, operand_element_whole)

pub whole_operand-returns-in-Element-clause-open_expr : goal.whole_operand-returns-in-Element-clause-open_expr
whole_operand-returns-in-Element-clause-open_expr t c = grind (arith, common_steps, operand_element_whole_open)

pub whole_operand-returns-in-Literal-clause-term : goal.whole_operand-returns-in-Literal-clause-term
whole_operand-returns-in-Literal-clause-term t c = grind (arith, common_steps, operand_literal_whole, operand_literal_said)

pub whole_operand-returns-in-Literal-clause-faults : goal.whole_operand-returns-in-Literal-clause-faults
whole_operand-returns-in-Literal-clause-faults t c = grind (arith, common_steps, operand_literal_whole, operand_literal_said)

pub whole_operand-returns-in-Literal-clause-open_expr : goal.whole_operand-returns-in-Literal-clause-open_expr
whole_operand-returns-in-Literal-clause-open_expr t c = grind (arith, common_steps, operand_literal_whole_open, operand_literal_open)

pub whole_operand-returns-in-Decorated-clause-term : goal.whole_operand-returns-in-Decorated-clause-term
whole_operand-returns-in-Decorated-clause-term t c = grind (arith, common_steps, operand_decorated_whole, operand_decorated_said)

pub whole_operand-returns-in-Decorated-clause-faults : goal.whole_operand-returns-in-Decorated-clause-faults
whole_operand-returns-in-Decorated-clause-faults t c = grind (arith, common_steps, operand_decorated_whole, operand_decorated_said)

pub whole_operand-returns-in-Decorated-clause-open_expr : goal.whole_operand-returns-in-Decorated-clause-open_expr
whole_operand-returns-in-Decorated-clause-open_expr t c = grind (arith, common_steps, operand_decorated_whole_open, operand_decorated_open)

pub whole_operand-returns-in-Truth-clause-term : goal.whole_operand-returns-in-Truth-clause-term
whole_operand-returns-in-Truth-clause-term t c = grind (arith, common_steps, operand_truth_whole, operand_truth_said)

pub whole_operand-returns-in-Truth-clause-faults : goal.whole_operand-returns-in-Truth-clause-faults
whole_operand-returns-in-Truth-clause-faults t c = grind (arith, common_steps, operand_truth_whole, operand_truth_said)

pub whole_operand-returns-in-Truth-clause-open_expr : goal.whole_operand-returns-in-Truth-clause-open_expr
whole_operand-returns-in-Truth-clause-open_expr t c = grind (arith, common_steps, operand_truth_whole_open, operand_truth_open)

pub whole_operand-returns-in-Parens-clause-term : goal.whole_operand-returns-in-Parens-clause-term
whole_operand-returns-in-Parens-clause-term t c = grind (arith, common_steps, operand_parens_whole, operand_parens_said)

pub whole_operand-returns-in-Parens-clause-faults : goal.whole_operand-returns-in-Parens-clause-faults
whole_operand-returns-in-Parens-clause-faults t c = grind (arith, common_steps, operand_parens_whole, operand_parens_said)

pub whole_operand-returns-in-Parens-clause-open_expr : goal.whole_operand-returns-in-Parens-clause-open_expr
whole_operand-returns-in-Parens-clause-open_expr t c = grind (arith, common_steps, operand_parens_whole_open, operand_parens_open)

pub whole_operand-returns-in-Table-clause-term : goal.whole_operand-returns-in-Table-clause-term
whole_operand-returns-in-Table-clause-term t c = grind (arith, common_steps, operand_table_whole, operand_table_said)

pub whole_operand-returns-in-Table-clause-faults : goal.whole_operand-returns-in-Table-clause-faults
whole_operand-returns-in-Table-clause-faults t c = grind (arith, common_steps, operand_table_whole, operand_table_said)

pub whole_operand-returns-in-Table-clause-open_expr : goal.whole_operand-returns-in-Table-clause-open_expr
whole_operand-returns-in-Table-clause-open_expr t c = grind (arith, common_steps, operand_table_whole_open, operand_table_open)

pub whole_operand-returns-in-DecoratedTable-clause-term : goal.whole_operand-returns-in-DecoratedTable-clause-term
whole_operand-returns-in-DecoratedTable-clause-term t c = grind (arith, common_steps, operand_decorated_table_whole, operand_decorated_table_said)

pub whole_operand-returns-in-DecoratedTable-clause-faults : goal.whole_operand-returns-in-DecoratedTable-clause-faults
whole_operand-returns-in-DecoratedTable-clause-faults t c = grind (arith, common_steps, operand_decorated_table_whole, operand_decorated_table_said)

pub whole_operand-returns-in-DecoratedTable-clause-open_expr : goal.whole_operand-returns-in-DecoratedTable-clause-open_expr
whole_operand-returns-in-DecoratedTable-clause-open_expr t c = grind (arith, common_steps, operand_decorated_table_whole_open, operand_decorated_table_open)

pub whole_operand-returns-in-Call-clause-term : goal.whole_operand-returns-in-Call-clause-term
whole_operand-returns-in-Call-clause-term t c = grind (arith, common_steps, operand_call_whole, operand_call_said)

pub whole_operand-returns-in-Call-clause-faults : goal.whole_operand-returns-in-Call-clause-faults
whole_operand-returns-in-Call-clause-faults t c = grind (arith, common_steps, operand_call_whole, operand_call_said)

pub whole_operand-returns-in-Call-clause-open_expr : goal.whole_operand-returns-in-Call-clause-open_expr
whole_operand-returns-in-Call-clause-open_expr t c = grind (arith, common_steps, operand_call_whole_open, operand_call_open)

pub operand_more-returns-in-Literal-clause-terms : goal.operand_more-returns-in-Literal-clause-terms
operand_more-returns-in-Literal-clause-terms t c = grind (arith, common_steps, operand_literal_said)

pub operand_more-returns-in-Literal-clause-faults : goal.operand_more-returns-in-Literal-clause-faults
operand_more-returns-in-Literal-clause-faults t c = grind (arith, common_steps, operand_literal_said)

pub operand_more-returns-in-Literal-clause-open_exprs : goal.operand_more-returns-in-Literal-clause-open_exprs
operand_more-returns-in-Literal-clause-open_exprs t c = grind (arith, common_steps, operand_literal_open)

pub operand_more-returns-in_ok-reading-in_default-clause-terms : goal.operand_more-returns-in_ok-reading-in_default-clause-terms
operand_more-returns-in_ok-reading-in_default-clause-terms t c = grind (arith, common_steps)

pub operand_more-returns-in_ok-reading-in_default-clause-open_exprs : goal.operand_more-returns-in_ok-reading-in_default-clause-open_exprs
operand_more-returns-in_ok-reading-in_default-clause-open_exprs t c = grind (arith, common_steps)

pub operand_more-returns-in_ok-reading-in_default-clause-faults : goal.operand_more-returns-in_ok-reading-in_default-clause-faults
operand_more-returns-in_ok-reading-in_default-clause-faults t c = grind (arith, common_steps)

pub element-returns-in-Named-clause-kind : goal.element-returns-in-Named-clause-kind
element-returns-in-Named-clause-kind t c = grind (arith, common_steps, element_named_reported)

pub element-returns-in-Named-clause-faults : goal.element-returns-in-Named-clause-faults
element-returns-in-Named-clause-faults t c = grind (arith, common_steps, element_named_reported)

pub element-returns-in-Named-clause-tree : goal.element-returns-in-Named-clause-tree
element-returns-in-Named-clause-tree t c = grind (arith, common_steps, element_named_tree)

pub element-returns-in-Segment-clause-kind : goal.element-returns-in-Segment-clause-kind
element-returns-in-Segment-clause-kind t c = grind (arith, common_steps)

pub element-returns-in-Segment-clause-tree : goal.element-returns-in-Segment-clause-tree
element-returns-in-Segment-clause-tree t c = grind (arith, common_steps)

pub element-returns-in-Segment-clause-faults : goal.element-returns-in-Segment-clause-faults
element-returns-in-Segment-clause-faults t c = grind (arith, common_steps)

pub whole_element-returns-in-Named-clause-term : goal.whole_element-returns-in-Named-clause-term
whole_element-returns-in-Named-clause-term t c = grind (arith, common_steps, element_named_whole)

pub whole_element-returns-in-Named-clause-faults : goal.whole_element-returns-in-Named-clause-faults
whole_element-returns-in-Named-clause-faults t c = grind (arith, common_steps, element_named_whole)

pub whole_element-returns-in-Named-clause-open_expr : goal.whole_element-returns-in-Named-clause-open_expr
whole_element-returns-in-Named-clause-open_expr t c = grind (arith, common_steps, element_named_whole_open)

pub whole_element-returns-in-Segment-clause-term : goal.whole_element-returns-in-Segment-clause-term
whole_element-returns-in-Segment-clause-term t c = grind (arith, common_steps, element_segment_whole, element_segment_reported)

pub whole_element-returns-in-Segment-clause-faults : goal.whole_element-returns-in-Segment-clause-faults
whole_element-returns-in-Segment-clause-faults t c = grind (arith, common_steps, element_segment_whole, element_segment_reported)

pub whole_element-returns-in-Segment-clause-open_expr : goal.whole_element-returns-in-Segment-clause-open_expr
whole_element-returns-in-Segment-clause-open_expr t c = grind (arith, common_steps, element_segment_whole_open, element_segment_tree)

pub element_operand-returns-in-Named-clause-term : goal.element_operand-returns-in-Named-clause-term
element_operand-returns-in-Named-clause-term t c = grind (arith, common_steps, element_named_reported)

pub element_operand-returns-in-Named-clause-open_expr : goal.element_operand-returns-in-Named-clause-open_expr
element_operand-returns-in-Named-clause-open_expr t c = grind (arith, common_steps, element_named_tree)

pub element_operand-returns-in-Named-clause-faults : goal.element_operand-returns-in-Named-clause-faults
element_operand-returns-in-Named-clause-faults t c = grind (arith, common_steps, element_named_reported)

pub decorated_operand-returns-clause-term : goal.decorated_operand-returns-clause-term
decorated_operand-returns-clause-term t c = grind (arith, common_steps)

pub decorated_operand-returns-clause-open_expr : goal.decorated_operand-returns-clause-open_expr
decorated_operand-returns-clause-open_expr t c = grind (arith, common_steps)

pub decorated_operand-returns-clause-faults : goal.decorated_operand-returns-clause-faults
decorated_operand-returns-clause-faults t c = grind (arith, common_steps)

pub first_item-returns-clause-terms : goal.first_item-returns-clause-terms
first_item-returns-clause-terms t c = grind (arith, common_steps)

pub first_item-returns-clause-open_exprs : goal.first_item-returns-clause-open_exprs
first_item-returns-clause-open_exprs t c = grind (arith, common_steps)

pub first_item-returns-clause-faults : goal.first_item-returns-clause-faults
first_item-returns-clause-faults t c = grind (arith, common_steps)

pub actuals-returns-clause-is_faulty : goal.actuals-returns-clause-is_faulty
actuals-returns-clause-is_faulty t c = grind (arith, common_steps)

pub actuals-returns-clause-open_exprs : goal.actuals-returns-clause-open_exprs
actuals-returns-clause-open_exprs t c = grind (arith, common_steps)

pub actuals-returns-clause-faults : goal.actuals-returns-clause-faults
actuals-returns-clause-faults t c = grind (arith, common_steps)

pub arguments-returns : goal.arguments-returns
arguments-returns t c = grind (arith, common_steps)

pub bounds-returns-in-From-clause-bounds : goal.bounds-returns-in-From-clause-bounds
bounds-returns-in-From-clause-bounds t c = grind (arith, common_steps)

pub bounds-returns-in-From-clause-selector : goal.bounds-returns-in-From-clause-selector
bounds-returns-in-From-clause-selector t c = grind (arith, common_steps)

pub bounds-returns-in-From-clause-faults : goal.bounds-returns-in-From-clause-faults
bounds-returns-in-From-clause-faults t c = grind (arith, common_steps)

pub bounds-returns-in-For-clause-bounds : goal.bounds-returns-in-For-clause-bounds
bounds-returns-in-For-clause-bounds t c = grind (arith, common_steps)

pub bounds-returns-in-For-clause-selector : goal.bounds-returns-in-For-clause-selector
bounds-returns-in-For-clause-selector t c = grind (arith, common_steps)

pub bounds-returns-in-For-clause-faults : goal.bounds-returns-in-For-clause-faults
bounds-returns-in-For-clause-faults t c = grind (arith, common_steps)

pub bounds-returns-in_ok-count-in-FromFor-clause-bounds : goal.bounds-returns-in_ok-count-in-FromFor-clause-bounds
bounds-returns-in_ok-count-in-FromFor-clause-bounds t c = grind (arith, common_steps, bounds_from_for_said)

pub bounds-returns-in_ok-count-in-FromFor-clause-faults : goal.bounds-returns-in_ok-count-in-FromFor-clause-faults
bounds-returns-in_ok-count-in-FromFor-clause-faults t c = grind (arith, common_steps, bounds_from_for_said)

pub bounds-returns-in_ok-count-in-FromFor-clause-selector : goal.bounds-returns-in_ok-count-in-FromFor-clause-selector
bounds-returns-in_ok-count-in-FromFor-clause-selector t c = grind (arith, common_steps, bounds_from_for_tree)

pub from_reading-returns-clause-bounds : goal.from_reading-returns-clause-bounds
from_reading-returns-clause-bounds t c = grind (arith, common_steps, bounds_from_said)

pub from_reading-returns-clause-faults : goal.from_reading-returns-clause-faults
from_reading-returns-clause-faults t c = grind (arith, common_steps, bounds_from_said)

pub from_reading-returns-clause-selector : goal.from_reading-returns-clause-selector
from_reading-returns-clause-selector t c = grind (arith, common_steps, bounds_from_tree)

pub for_reading-returns-clause-bounds : goal.for_reading-returns-clause-bounds
for_reading-returns-clause-bounds t c = grind (arith, common_steps, bounds_for_said)

pub for_reading-returns-clause-faults : goal.for_reading-returns-clause-faults
for_reading-returns-clause-faults t c = grind (arith, common_steps, bounds_for_said)

pub for_reading-returns-clause-selector : goal.for_reading-returns-clause-selector
for_reading-returns-clause-selector t c = grind (arith, common_steps, bounds_for_tree)

pub place_reading-returns-clause-term : goal.place_reading-returns-clause-term
place_reading-returns-clause-term t c = grind (arith, common_steps)

pub place_reading-returns-clause-tree : goal.place_reading-returns-clause-tree
place_reading-returns-clause-tree t c = grind (arith, common_steps)

pub place_reading-returns-clause-faults : goal.place_reading-returns-clause-faults
place_reading-returns-clause-faults t c = grind (arith, common_steps)

pub known_type_form-returns-in_ok-of-in-Builtin-clause-found : goal.known_type_form-returns-in_ok-of-in-Builtin-clause-found
known_type_form-returns-in_ok-of-in-Builtin-clause-found t c = grind (arith, common_steps, type_form_builtin_view)

pub dimension-returns-in-Open-clause-faults : goal.dimension-returns-in-Open-clause-faults
dimension-returns-in-Open-clause-faults t c = grind (arith, common_steps, dimension_open_view)

pub dimension-returns-in_ok-read-in-Sized-clause-extent : goal.dimension-returns-in_ok-read-in-Sized-clause-extent
dimension-returns-in_ok-read-in-Sized-clause-extent t c = grind (arith, common_steps, dimension_sized_view)

pub dimension-returns-in_ok-read-in-Sized-clause-faults : goal.dimension-returns-in_ok-read-in-Sized-clause-faults
dimension-returns-in_ok-read-in-Sized-clause-faults t c = grind (arith, common_steps, dimension_sized_view)

pub builtin-returns-in-Channel-clause-faults : goal.builtin-returns-in-Channel-clause-faults
builtin-returns-in-Channel-clause-faults t c = grind (arith, common_steps, builtin_channel_view)

pub builtin-returns-in_ok-known-in-Primitive-clause-found : goal.builtin-returns-in_ok-known-in-Primitive-clause-found
builtin-returns-in_ok-known-in-Primitive-clause-found t c = grind (arith, common_steps, builtin_primitive_view)

pub builtin-returns-in_ok-known-in-Primitive-clause-faults : goal.builtin-returns-in_ok-known-in-Primitive-clause-faults
builtin-returns-in_ok-known-in-Primitive-clause-faults t c = grind (arith, common_steps, builtin_primitive_view)

pub builtin-returns-in_ok-known-in-Timer-clause-found : goal.builtin-returns-in_ok-known-in-Timer-clause-found
builtin-returns-in_ok-known-in-Timer-clause-found t c = grind (arith, common_steps, builtin_timer_view)

pub builtin-returns-in_ok-known-in-Timer-clause-faults : goal.builtin-returns-in_ok-known-in-Timer-clause-faults
builtin-returns-in_ok-known-in-Timer-clause-faults t c = grind (arith, common_steps, builtin_timer_view)

pub builtin-returns-in_ok-known-in-AnyChannel-clause-found : goal.builtin-returns-in_ok-known-in-AnyChannel-clause-found
builtin-returns-in_ok-known-in-AnyChannel-clause-found t c = grind (arith, common_steps, builtin_any_channel_view)

pub builtin-returns-in_ok-known-in-AnyChannel-clause-faults : goal.builtin-returns-in_ok-known-in-AnyChannel-clause-faults
builtin-returns-in_ok-known-in-AnyChannel-clause-faults t c = grind (arith, common_steps, builtin_any_channel_view)

pub segment_within-returns-clause-kind : goal.segment_within-returns-clause-kind
segment_within-returns-clause-kind t c = grind (arith, common_steps)

pub segment_within-returns-clause-selector : goal.segment_within-returns-clause-selector
segment_within-returns-clause-selector t c = grind (arith, common_steps)

pub segment_within-returns-clause-faults : goal.segment_within-returns-clause-faults
segment_within-returns-clause-faults t c = grind (arith, common_steps)

pub known_array_over-returns-clause-found : goal.known_array_over-returns-clause-found
unfolding array_after
known_array_over-returns-clause-found t c = grind (arith, common_steps)

pub known_array_over-returns-clause-faults : goal.known_array_over-returns-clause-faults
unfolding array_after
known_array_over-returns-clause-faults t c = grind (arith, common_steps)

pub after_a_fault-returns : goal.after_a_fault-returns
unfolding after_a_fault
after_a_fault-returns t c = grind (arith, common_steps)

pub after_a_fault-returns-then-is_some : goal.after_a_fault-returns-then-is_some
unfolding after_a_fault
after_a_fault-returns-then-is_some t c = grind (arith, common_steps)

pub call-returns-in-Some-Function-clause-term : goal.call-returns-in-Some-Function-clause-term
unfolding call no_call call_open
call-returns-in-Some-Function-clause-term t c = grind (arith, common_steps)

pub call-returns-in-Some-Function-clause-open_expr : goal.call-returns-in-Some-Function-clause-open_expr
unfolding call no_call call_open
call-returns-in-Some-Function-clause-open_expr t c = grind (arith, common_steps)

pub call-returns-in-Some-Function-clause-faults : goal.call-returns-in-Some-Function-clause-faults
unfolding call no_call call_open
call-returns-in-Some-Function-clause-faults t c = grind (arith, common_steps)

pub call-returns-in-Some-Type-clause-term : goal.call-returns-in-Some-Type-clause-term
unfolding call no_call call_open
call-returns-in-Some-Type-clause-term t c = grind (arith, common_steps)

pub call-returns-in-Some-Type-clause-open_expr : goal.call-returns-in-Some-Type-clause-open_expr
unfolding call no_call call_open
call-returns-in-Some-Type-clause-open_expr t c = grind (arith, common_steps)

pub call-returns-in-Some-Type-clause-faults : goal.call-returns-in-Some-Type-clause-faults
unfolding call no_call call_open
call-returns-in-Some-Type-clause-faults t c = grind (arith, common_steps)

pub call-returns-in_ok-no_call-in_default-clause-term : goal.call-returns-in_ok-no_call-in_default-clause-term
unfolding call no_call call_open
call-returns-in_ok-no_call-in_default-clause-term t c = grind (arith, common_steps)

pub call-returns-in_ok-no_call-in_default-clause-open_expr : goal.call-returns-in_ok-no_call-in_default-clause-open_expr
unfolding call no_call call_open
call-returns-in_ok-no_call-in_default-clause-open_expr t c = grind (arith, common_steps)

pub call-returns-in_ok-no_call-in_default-clause-faults : goal.call-returns-in_ok-no_call-in_default-clause-faults
unfolding call no_call call_open
call-returns-in_ok-no_call-in_default-clause-faults t c = grind (arith, common_steps)

pub call_of_type-returns-clause-term : goal.call_of_type-returns-clause-term
unfolding no_call
call_of_type-returns-clause-term t c = grind (arith, common_steps)

pub call_of_type-returns-clause-open_expr : goal.call_of_type-returns-clause-open_expr
unfolding no_call
call_of_type-returns-clause-open_expr t c = grind (arith, common_steps)

pub call_of_type-returns-clause-faults : goal.call_of_type-returns-clause-faults
unfolding no_call
call_of_type-returns-clause-faults t c = grind (arith, common_steps)

pub call_of_type-returns-in_default-clause-term : goal.call_of_type-returns-in_default-clause-term
unfolding no_call
call_of_type-returns-in_default-clause-term t c = grind (arith, common_steps)

pub call_of_type-returns-in_default-clause-open_expr : goal.call_of_type-returns-in_default-clause-open_expr
unfolding no_call
call_of_type-returns-in_default-clause-open_expr t c = grind (arith, common_steps)

pub call_of_type-returns-in_default-clause-faults : goal.call_of_type-returns-in_default-clause-faults
unfolding no_call
call_of_type-returns-in_default-clause-faults t c = grind (arith, common_steps)

pub channel-returns-in_ok-carried-in-None-Named-clause-found : goal.channel-returns-in_ok-carried-in-None-Named-clause-found
unfolding channel
channel-returns-in_ok-carried-in-None-Named-clause-found t c = grind (arith, common_steps)

pub channel-returns-in_ok-carried-in-None-Named-clause-faults : goal.channel-returns-in_ok-carried-in-None-Named-clause-faults
unfolding channel
channel-returns-in_ok-carried-in-None-Named-clause-faults t c = grind (arith, common_steps)

pub channel-returns-in_ok-of-in-None-Primitive-clause-found : goal.channel-returns-in_ok-of-in-None-Primitive-clause-found
unfolding channel
channel-returns-in_ok-of-in-None-Primitive-clause-found t c = grind (arith, common_steps)

pub channel-returns-in_ok-of-in-None-Primitive-clause-faults : goal.channel-returns-in_ok-of-in-None-Primitive-clause-faults
unfolding channel
channel-returns-in_ok-of-in-None-Primitive-clause-faults t c = grind (arith, common_steps)

pub channel-returns-in_ok-of-in-Some-default-clause-found : goal.channel-returns-in_ok-of-in-Some-default-clause-found
unfolding channel
channel-returns-in_ok-of-in-Some-default-clause-found t c = grind (arith, common_steps)

pub channel-returns-in_ok-of-in-Some-default-clause-faults : goal.channel-returns-in_ok-of-in-Some-default-clause-faults
unfolding channel
channel-returns-in_ok-of-in-Some-default-clause-faults t c = grind (arith, common_steps)

pub component-returns-in-Some-clause-kind : goal.component-returns-in-Some-clause-kind
component-returns-in-Some-clause-kind t c = rw c.in-Some.ensures (rw (decimal_selects c.args.scope.now c.args.of.now c.in-Some.n) c.decimal_component.ensures.kind)

pub component-returns-in-Some-clause-faults : goal.component-returns-in-Some-clause-faults
component-returns-in-Some-clause-faults t c = rw c.in-Some.ensures (rw (decimal_selects c.args.scope.now c.args.of.now c.in-Some.n) c.decimal_component.ensures.faults)

pub component-returns-in-Some-clause-selector : goal.component-returns-in-Some-clause-selector
component-returns-in-Some-clause-selector t c = rw c.in-Some.ensures (rw (decimal_tree c.args.scope.now c.in-Some.n) c.decimal_component.ensures.selector)

pub component-returns-in-None-clause-kind : goal.component-returns-in-None-clause-kind
component-returns-in-None-clause-kind t c = c.read_component.ensures.kind

pub component-returns-in-None-clause-selector : goal.component-returns-in-None-clause-selector
component-returns-in-None-clause-selector t c = c.read_component.ensures.selector

pub component-returns-in-None-clause-faults : goal.component-returns-in-None-clause-faults
component-returns-in-None-clause-faults t c = c.read_component.ensures.faults

pub read_component-returns-clause-kind : goal.read_component-returns-clause-kind
unfolding component
read_component-returns-clause-kind t c = grind (arith, common_steps)

pub read_component-returns-clause-selector : goal.read_component-returns-clause-selector
unfolding component
read_component-returns-clause-selector t c = grind (arith, common_steps)

pub read_component-returns-clause-faults : goal.read_component-returns-clause-faults
unfolding component
read_component-returns-clause-faults t c = grind (arith, common_steps)

pub known_data_form-returns-clause-found : goal.known_data_form-returns-clause-found
unfolding data_form
known_data_form-returns-clause-found t c = grind (arith, common_steps)

pub known_data_form-returns-clause-faults : goal.known_data_form-returns-clause-faults
unfolding data_form
known_data_form-returns-clause-faults t c = grind (arith, common_steps)

pub dimensions-returns-clause-extents : goal.dimensions-returns-clause-extents
dimensions-returns-clause-extents t c = grind (arith, common_steps)

pub dimensions-returns-clause-faults : goal.dimensions-returns-clause-faults
dimensions-returns-clause-faults t c = grind (arith, common_steps)

pub dimensions-loop-one-preserved : goal.dimensions-loop-one-preserved
dimensions-loop-one-preserved t c = grind (arith, common_steps)

pub function_call-returns-clause-term : goal.function_call-returns-clause-term
unfolding function_call
function_call-returns-clause-term t c = grind (arith, common_steps)

pub function_call-returns-clause-open_expr : goal.function_call-returns-clause-open_expr
unfolding function_call
function_call-returns-clause-open_expr t c = grind (arith, common_steps)

pub function_call-returns-clause-faults : goal.function_call-returns-clause-faults
unfolding function_call
function_call-returns-clause-faults t c = grind (arith, common_steps)

pub function_call-returns-then-is_faulty-clause-term : goal.function_call-returns-then-is_faulty-clause-term
unfolding function_call
function_call-returns-then-is_faulty-clause-term t c = grind (arith, common_steps)

pub function_call-returns-then-is_faulty-clause-open_expr : goal.function_call-returns-then-is_faulty-clause-open_expr
unfolding function_call
function_call-returns-then-is_faulty-clause-open_expr t c = grind (arith, common_steps)

pub function_call-returns-then-is_faulty-clause-faults : goal.function_call-returns-then-is_faulty-clause-faults
unfolding function_call
function_call-returns-then-is_faulty-clause-faults t c = grind (arith, common_steps)

pub more_items-returns-clause-terms : goal.more_items-returns-clause-terms
more_items-returns-clause-terms t c = grind (arith, common_steps)

pub more_items-returns-clause-open_exprs : goal.more_items-returns-clause-open_exprs
more_items-returns-clause-open_exprs t c = grind (arith, common_steps)

pub more_items-returns-clause-faults : goal.more_items-returns-clause-faults
more_items-returns-clause-faults t c = grind (arith, common_steps)

pub more_items-loop-expr-preserved : goal.more_items-loop-expr-preserved
more_items-loop-expr-preserved t c = grind (arith, common_steps)

pub named_element-returns-clause-kind : goal.named_element-returns-clause-kind
unfolding named_element named_tree
named_element-returns-clause-kind t c = grind (arith, common_steps, front_rules)

pub named_element-returns-clause-tree : goal.named_element-returns-clause-tree
unfolding named_element named_tree
named_element-returns-clause-tree t c = grind (arith, common_steps, front_rules)

pub named_element-returns-clause-faults : goal.named_element-returns-clause-faults
unfolding named_element named_tree
named_element-returns-clause-faults t c = grind (arith, common_steps, front_rules)

pub no_call-returns : goal.no_call-returns
unfolding no_call
no_call-returns t c = grind (arith, common_steps)

pub operands-returns-clause-terms : goal.operands-returns-clause-terms
operands-returns-clause-terms t c = grind (arith, common_steps)

pub operands-returns-clause-open_exprs : goal.operands-returns-clause-open_exprs
operands-returns-clause-open_exprs t c = grind (arith, common_steps)

pub operands-returns-clause-faults : goal.operands-returns-clause-faults
operands-returns-clause-faults t c = grind (arith, common_steps)

pub operands-loop-one-preserved : goal.operands-loop-one-preserved
operands-loop-one-preserved t c = grind (arith, common_steps)

pub part-returns-clause-kind : goal.part-returns-clause-kind
unfolding part
part-returns-clause-kind t c = grind (arith, common_steps)

pub part-returns-clause-selector : goal.part-returns-clause-selector
unfolding part
part-returns-clause-selector t c = grind (arith, common_steps)

pub part-returns-clause-faults : goal.part-returns-clause-faults
unfolding part
part-returns-clause-faults t c = grind (arith, common_steps)

pub part-returns-in_default-clause-kind : goal.part-returns-in_default-clause-kind
unfolding part
part-returns-in_default-clause-kind t c = grind (arith, common_steps)

pub part-returns-in_default-clause-selector : goal.part-returns-in_default-clause-selector
unfolding part
part-returns-in_default-clause-selector t c = grind (arith, common_steps)

pub part-returns-in_default-clause-faults : goal.part-returns-in_default-clause-faults
unfolding part
part-returns-in_default-clause-faults t c = grind (arith, common_steps)

pub subscript-returns-in-Known-clause-kind : goal.subscript-returns-in-Known-clause-kind
unfolding subscript selector
subscript-returns-in-Known-clause-kind t c = grind (arith, common_steps)

pub subscript-returns-in-Known-clause-selector : goal.subscript-returns-in-Known-clause-selector
unfolding subscript selector
subscript-returns-in-Known-clause-selector t c = grind (arith, common_steps)

pub subscript-returns-in-Known-clause-faults : goal.subscript-returns-in-Known-clause-faults
unfolding subscript selector
subscript-returns-in-Known-clause-faults t c = grind (arith, common_steps)

pub subscript-returns-in_ok-after_a_fault-in-Faulty-clause-kind : goal.subscript-returns-in_ok-after_a_fault-in-Faulty-clause-kind
unfolding subscript selector
subscript-returns-in_ok-after_a_fault-in-Faulty-clause-kind t c = grind (arith, common_steps)

pub subscript-returns-in_ok-after_a_fault-in-Faulty-clause-selector : goal.subscript-returns-in_ok-after_a_fault-in-Faulty-clause-selector
unfolding subscript selector
subscript-returns-in_ok-after_a_fault-in-Faulty-clause-selector t c = grind (arith, common_steps)

pub subscript-returns-in_ok-after_a_fault-in-Faulty-clause-faults : goal.subscript-returns-in_ok-after_a_fault-in-Faulty-clause-faults
unfolding subscript selector
subscript-returns-in_ok-after_a_fault-in-Faulty-clause-faults t c = grind (arith, common_steps)

pub subscript-returns-in_ok-after_a_fault-in-Untyped-clause-kind : goal.subscript-returns-in_ok-after_a_fault-in-Untyped-clause-kind
unfolding subscript selector
subscript-returns-in_ok-after_a_fault-in-Untyped-clause-kind t c = grind (arith, common_steps)

pub subscript-returns-in_ok-after_a_fault-in-Untyped-clause-selector : goal.subscript-returns-in_ok-after_a_fault-in-Untyped-clause-selector
unfolding subscript selector
subscript-returns-in_ok-after_a_fault-in-Untyped-clause-selector t c = grind (arith, common_steps)

pub subscript-returns-in_ok-after_a_fault-in-Untyped-clause-faults : goal.subscript-returns-in_ok-after_a_fault-in-Untyped-clause-faults
unfolding subscript selector
subscript-returns-in_ok-after_a_fault-in-Untyped-clause-faults t c = grind (arith, common_steps)

pub subscripts-returns-clause-kind : goal.subscripts-returns-clause-kind
subscripts-returns-clause-kind t c = grind (arith, common_steps, front_rules)

pub subscripts-returns-clause-selectors : goal.subscripts-returns-clause-selectors
subscripts-returns-clause-selectors t c = grind (arith, common_steps, front_rules)

pub subscripts-returns-clause-faults : goal.subscripts-returns-clause-faults
subscripts-returns-clause-faults t c = grind (arith, common_steps, front_rules)

pub subscripts-loop-expr-preserved : goal.subscripts-loop-expr-preserved
subscripts-loop-expr-preserved t c = grind (arith, common_steps, front_rules)

pub whole_named_element-returns-clause-term : goal.whole_named_element-returns-clause-term
unfolding whole_element whole_element_open
whole_named_element-returns-clause-term t c = grind (arith, common_steps)

pub whole_named_element-returns-clause-open_expr : goal.whole_named_element-returns-clause-open_expr
unfolding whole_element whole_element_open
whole_named_element-returns-clause-open_expr t c = grind (arith, common_steps)

pub whole_named_element-returns-clause-faults : goal.whole_named_element-returns-clause-faults
unfolding whole_element whole_element_open
whole_named_element-returns-clause-faults t c = grind (arith, common_steps)

pub whole_named_element-returns-in_default-clause-term : goal.whole_named_element-returns-in_default-clause-term
unfolding whole_element whole_element_open
whole_named_element-returns-in_default-clause-term t c = grind (arith, common_steps)

pub whole_named_element-returns-in_default-clause-open_expr : goal.whole_named_element-returns-in_default-clause-open_expr
unfolding whole_element whole_element_open
whole_named_element-returns-in_default-clause-open_expr t c = grind (arith, common_steps)

pub whole_named_element-returns-in_default-clause-faults : goal.whole_named_element-returns-in_default-clause-faults
unfolding whole_element whole_element_open
whole_named_element-returns-in_default-clause-faults t c = grind (arith, common_steps)

pub composed-returns-in_ok-second-in-Pair-clause-faults : goal.composed-returns-in_ok-second-in-Pair-clause-faults
composed-returns-in_ok-second-in-Pair-clause-faults t c =
    step.pair_faults c.pair.result _ _ _ _ _ _ _ _ _ _ _ (c.in-Pair.is ∙ ap (λ z. xv.Pair z c.in-Pair.operator c.in-Pair.second) (sym c.get-in-Pair.ensures) ∙ ap (λ z. xv.Pair c.get-in-Pair.result.now c.in-Pair.operator z) (sym c.get-in-Pair-2.ensures)) c.in_ok-first-in-Pair.ensures.faults c.in_ok-first-in-Pair.ensures.term c.in_ok-second-in-Pair.ensures.faults c.in_ok-second-in-Pair.ensures.term c.pair.ensures.faults

pub composed-returns-in_ok-reading-in-Converted-clause-faults : goal.composed-returns-in_ok-reading-in-Converted-clause-faults
composed-returns-in_ok-reading-in-Converted-clause-faults t c =
    step.conversion_faults c.converted.result _ _ _ _ _ _ _ _ _ _ _ _ _ _ (c.in-Converted.is ∙ ap (λ z. xv.Converted z c.in-Converted.word c.in-Converted.following) (sym c.as_slice-in-Converted.ensures) ∙ ap (λ z. xv.Converted c.as_slice-in-Converted.result.now z c.in-Converted.following) (sym c.get-in-Converted.ensures) ∙ ap (λ z. xv.Converted c.as_slice-in-Converted.result.now c.get-in-Converted.result.now z) (sym c.get-in-Converted-2.ensures)) c.in_ok-of-in-Converted.ensures.faults (c.in_ok-of-in-Converted.ensures.found) c.new.ensures c.in_ok-to-in-Converted.ensures.faults c.in_ok-to-in-Converted.ensures.found c.in_ok-reading-in-Converted.ensures.faults c.in_ok-reading-in-Converted.ensures.term c.converted.ensures.faults

pub composed-returns-in_ok-reading-in-ArrayConverted-clause-faults : goal.composed-returns-in_ok-reading-in-ArrayConverted-clause-faults
composed-returns-in_ok-reading-in-ArrayConverted-clause-faults t c =
    step.array_conversion_faults c.converted-in-ArrayConverted.result _ _ _ _ _ _ _ _ _ _ _ _ _ _ _ _ _ (c.in-ArrayConverted.is ∙ ap (λ z. xv.ArrayConverted z c.in-ArrayConverted.more c.in-ArrayConverted.name c.in-ArrayConverted.following) (sym c.get-in-ArrayConverted.ensures) ∙ ap (λ z. xv.ArrayConverted c.get-in-ArrayConverted.result.now z c.in-ArrayConverted.name c.in-ArrayConverted.following) (sym c.as_slice-in-ArrayConverted.ensures) ∙ ap (λ z. xv.ArrayConverted c.get-in-ArrayConverted.result.now c.as_slice-in-ArrayConverted.result.now c.in-ArrayConverted.name z) (sym c.get-in-ArrayConverted-2.ensures)) c.in_ok-of-in-ArrayConverted.ensures.faults c.in_ok-of-in-ArrayConverted.ensures.found c.in_ok-first-in-ArrayConverted.ensures.faults c.in_ok-first-in-ArrayConverted.ensures.extent c.in_ok-extents-in-ArrayConverted.ensures c.in_ok-to-in-ArrayConverted.ensures.faults c.in_ok-to-in-ArrayConverted.ensures.found c.in_ok-reading-in-ArrayConverted.ensures.faults c.in_ok-reading-in-ArrayConverted.ensures.term c.converted-in-ArrayConverted.ensures.faults

pub composed-returns-in_ok-operands-in-Run-clause-faults : goal.composed-returns-in_ok-operands-in-Run-clause-faults
composed-returns-in_ok-operands-in-Run-clause-faults t c =
    step.run_faults c.operation_of.result _ _ _ _ _ _ _ _ _ _ _ _ _ _ _ _ (c.in-Run.is ∙ ap (λ z. xv.Run c.in-Run.operator z c.in-Run.second c.in-Run.more) (sym c.get.ensures) ∙ ap (λ z. xv.Run c.in-Run.operator c.get.result.now z c.in-Run.more) (sym c.get-in-Run.ensures) ∙ ap (λ z. xv.Run c.in-Run.operator c.get.result.now c.get-in-Run.result.now z) (sym c.as_slice.ensures)) c.in_ok-first-in-Run.ensures.faults c.in_ok-first-in-Run.ensures.term c.in_ok-second-in-Run.ensures.faults c.in_ok-second-in-Run.ensures.term c.in_ok-operands-in-Run.ensures.faults (c.in_ok-operands-in-Run.ensures.terms ∙ ap (λ z. z ++ terms (operands c.args.scope.now (operand_views c.as_slice.result.now))) (c.in_ok-push-in-Run-2.ensures.terms ∙ ap (λ z. z ++ c.in_ok-second-in-Run.second.term ∷ []) (c.in_ok-push-in-Run.ensures.terms ∙ ap (λ z. z ++ c.in_ok-first-in-Run.first.term ∷ []) c.in_ok-readings-in-Run.ensures.terms))) refl c.run_operator.ensures c.operation_of.ensures.faults

pub segment_reading-returns-in_ok-tree-in-Segment-clause-kind : goal.segment_reading-returns-in_ok-tree-in-Segment-clause-kind
segment_reading-returns-in_ok-tree-in-Segment-clause-kind t c =
    step.segment_kind _ _ _ _ _ _ _ _ (c.in-Segment.is ∙ ap (λ z. ev.Segment z c.in-Segment.part c.in-Segment.exprs) (sym c.get.ensures) ∙ ap (λ z. ev.Segment c.get.result.now z c.in-Segment.exprs) (sym c.get-in-Segment.ensures) ∙ ap (λ z. ev.Segment c.get.result.now c.get-in-Segment.result.now z) (sym c.as_slice-in-Segment.ensures)) c.in_ok-inner-in-Segment.ensures.kind c.in_ok-segment-in-Segment.ensures.kind c.in_ok-kind-in-Segment.ensures.kind

pub segment_reading-returns-in_ok-tree-in-Segment-clause-faults : goal.segment_reading-returns-in_ok-tree-in-Segment-clause-faults
segment_reading-returns-in_ok-tree-in-Segment-clause-faults t c =
    step.segment_faults _ _ _ _ _ _ _ _ _ _ _ (c.in-Segment.is ∙ ap (λ z. ev.Segment z c.in-Segment.part c.in-Segment.exprs) (sym c.get.ensures) ∙ ap (λ z. ev.Segment c.get.result.now z c.in-Segment.exprs) (sym c.get-in-Segment.ensures) ∙ ap (λ z. ev.Segment c.get.result.now c.get-in-Segment.result.now z) (sym c.as_slice-in-Segment.ensures)) c.in_ok-inner-in-Segment.ensures.faults c.in_ok-inner-in-Segment.ensures.kind c.in_ok-segment-in-Segment.ensures.faults c.in_ok-segment-in-Segment.ensures.kind c.in_ok-kind-in-Segment.ensures.faults

pub segment_reading-returns-in_ok-tree-in-Segment-clause-tree : goal.segment_reading-returns-in_ok-tree-in-Segment-clause-tree
segment_reading-returns-in_ok-tree-in-Segment-clause-tree t c =
    step.segment_tree_made _ _ _ _ _ _ _ _ _ _ _ _ _ (c.in-Segment.is ∙ ap (λ z. ev.Segment z c.in-Segment.part c.in-Segment.exprs) (sym c.get.ensures) ∙ ap (λ z. ev.Segment c.get.result.now z c.in-Segment.exprs) (sym c.get-in-Segment.ensures) ∙ ap (λ z. ev.Segment c.get.result.now c.get-in-Segment.result.now z) (sym c.as_slice-in-Segment.ensures)) c.in_ok-inner-in-Segment.ensures.kind c.in_ok-inner-in-Segment.ensures.tree c.in_ok-segment-in-Segment.ensures.selector c.in_ok-segment-in-Segment.ensures.kind (ap (λ z. Some z) c.new.ensures) c.in_ok-kind-in-Segment.ensures.kind c.in_ok-kind-in-Segment.ensures.selectors c.in_ok-tree-in-Segment.ensures

pub segment_reading-returns-in-Named-clause-kind : goal.segment_reading-returns-in-Named-clause-kind
segment_reading-returns-in-Named-clause-kind t c = grind (arith, common_steps, element_named_reported)

pub segment_reading-returns-in-Named-clause-faults : goal.segment_reading-returns-in-Named-clause-faults
segment_reading-returns-in-Named-clause-faults t c = grind (arith, common_steps, element_named_reported)

pub segment_reading-returns-in-Named-clause-tree : goal.segment_reading-returns-in-Named-clause-tree
segment_reading-returns-in-Named-clause-tree t c = grind (arith, common_steps, element_named_tree)

pub composed-returns-in_ok-operands-in-Run-clause-term : goal.composed-returns-in_ok-operands-in-Run-clause-term
composed-returns-in_ok-operands-in-Run-clause-term t c = grind (arith, common_steps, expr_run_said)

pub composed-returns-in_ok-operands-in-Run-clause-open_expr : goal.composed-returns-in_ok-operands-in-Run-clause-open_expr
composed-returns-in_ok-operands-in-Run-clause-open_expr t c = grind (arith, common_steps, expr_run_open)

pub composed-returns-in_ok-second-in-Pair-clause-term : goal.composed-returns-in_ok-second-in-Pair-clause-term
composed-returns-in_ok-second-in-Pair-clause-term t c = grind (arith, common_steps, expr_pair_said)

pub composed-returns-in_ok-second-in-Pair-clause-open_expr : goal.composed-returns-in_ok-second-in-Pair-clause-open_expr
composed-returns-in_ok-second-in-Pair-clause-open_expr t c = grind (arith, common_steps, expr_pair_open)

pub composed-returns-in_ok-reading-in-Converted-clause-term : goal.composed-returns-in_ok-reading-in-Converted-clause-term
composed-returns-in_ok-reading-in-Converted-clause-term t c = grind (arith, common_steps, expr_converted_said)

pub composed-returns-in_ok-reading-in-Converted-clause-open_expr : goal.composed-returns-in_ok-reading-in-Converted-clause-open_expr
composed-returns-in_ok-reading-in-Converted-clause-open_expr t c = grind (arith, common_steps, expr_converted_open)

pub composed-returns-in_ok-reading-in-ArrayConverted-clause-term : goal.composed-returns-in_ok-reading-in-ArrayConverted-clause-term
composed-returns-in_ok-reading-in-ArrayConverted-clause-term t c = grind (arith, common_steps, expr_array_converted_said)

pub composed-returns-in_ok-reading-in-ArrayConverted-clause-open_expr : goal.composed-returns-in_ok-reading-in-ArrayConverted-clause-open_expr
composed-returns-in_ok-reading-in-ArrayConverted-clause-open_expr t c = grind (arith, common_steps, expr_array_converted_open)
