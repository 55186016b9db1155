use Rattle.std.proofs.Common.{◌≡◌, ◌++◌, drop}
use Rattle.occ_expr_operations.specs.Elements.{selectors as spec_selectors, with_selectors}
use Rattle.occ_expr_operations.specs.Parts.{in_scope, own_faults, subscripts as spec_subscripts, terms}
use Rattle.occ_expr_operations.specs.Views.{dimension_views, each, expr_views, item_opens, operand_opens, operand_views, operands as said_operands}
use Rattle.occ_expr_operations.specs.Written.{all_spanning_faults, extents as spec_extents}
use Rattle.occ_expr.proofs.walk.+walk.Given as goal

abbrev pub invariant-operands-loop-one : goal.invariant-operands-loop-one
invariant-operands-loop-one l =
    (l.readings.terms ++ terms (said_operands l.scope (operand_views (drop l.one-index l.operands))) ≡ l.initial.readings.terms ++ terms (said_operands l.scope (operand_views l.operands)))
    × (l.readings.open_exprs ++ operand_opens l.scope (operand_views (drop l.one-index l.operands)) ≡ l.initial.readings.open_exprs ++ operand_opens l.scope (operand_views l.operands))
    × (l.faults ++ own_faults (said_operands l.scope (operand_views (drop l.one-index l.operands))) ≡ l.initial.faults ++ own_faults (said_operands l.scope (operand_views l.operands)))

abbrev pub invariant-more_items-loop-expr : goal.invariant-more_items-loop-expr
invariant-more_items-loop-expr l =
    (l.items.terms ++ terms (in_scope l.scope (expr_views (drop l.expr-index l.exprs))) ≡ l.initial.items.terms ++ terms (in_scope l.scope (expr_views l.exprs)))
    × (l.items.open_exprs ++ item_opens l.scope (expr_views (drop l.expr-index l.exprs)) ≡ l.initial.items.open_exprs ++ item_opens l.scope (expr_views l.exprs))
    × (l.faults ++ own_faults (in_scope l.scope (expr_views (drop l.expr-index l.exprs))) ≡ l.initial.faults ++ own_faults (in_scope l.scope (expr_views l.exprs)))

abbrev pub invariant-subscripts-loop-expr : goal.invariant-subscripts-loop-expr
invariant-subscripts-loop-expr l =
    ((spec_subscripts l.scope (expr_views (drop l.expr-index l.exprs)) l.kind).kind ≡ (spec_subscripts l.scope (expr_views l.exprs) l.initial.kind).kind)
    × (with_selectors l.selectors (spec_selectors l.scope (expr_views (drop l.expr-index l.exprs)) l.kind) ≡ with_selectors l.initial.selectors (spec_selectors l.scope (expr_views l.exprs) l.initial.kind))
    × (l.faults ++ (spec_subscripts l.scope (expr_views (drop l.expr-index l.exprs)) l.kind).faults ≡ l.initial.faults ++ (spec_subscripts l.scope (expr_views l.exprs) l.initial.kind).faults)

abbrev pub invariant-dimensions-loop-one : goal.invariant-dimensions-loop-one
invariant-dimensions-loop-one l =
    (l.extents ++ spec_extents (each l.opening l.scope (dimension_views (drop l.one-index l.dims))) ≡ l.initial.extents ++ spec_extents (each l.opening l.scope (dimension_views l.dims)))
    × (l.faults ++ all_spanning_faults (each l.opening l.scope (dimension_views (drop l.one-index l.dims))) ≡ l.initial.faults ++ all_spanning_faults (each l.opening l.scope (dimension_views l.dims)))
