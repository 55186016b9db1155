-- The trees of expressions and elements, where they have no fault.
use Rattle.std.specs.Prelude.{Option}
use Rattle.occ_forms_expressions.specs.declared.tree.Element.{Element}
use Rattle.occ_forms_expressions.specs.declared.tree.Expr.{Expr}
use Rattle.occ_scope.specs.declared.scope.Scope.{Scope}
use Rattle.occ_typing_operands.specs.Settling.{int}
use Rattle.occ_typing_rules.specs.Placing.{placed}
use Rattle.occ_typing_rules.specs.declared.expr.TypedElement.{TypedElement}
use Rattle.occ_typing_rules.specs.declared.expr.TypedExpr.{TypedExpr}
use Rattle.occ_expr_operations.specs.Views.{element_view, expr_view}

-- of an expression of which an INT is wanted
unfoldable pub int_tree : Scope → Expr → Option TypedExpr
int_tree s e = placed ((expr_view e).open_expr s) int

abbrev pub element_tree : Scope → Element → Option TypedElement
element_tree s el = (element_view el).tree s
