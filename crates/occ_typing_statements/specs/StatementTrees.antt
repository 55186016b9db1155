-- The typed trees of a line of a process: of each expression the type at its place is wanted.
use Rattle.std.specs.Prelude.{Option, Some, None, List, [], ◌∷◌, ◌++◌}
use Rattle.occ_expr_operations.specs.Sides.{side}
use Rattle.occ_expr_operations.specs.Views.{element_view, expr_view}
use Rattle.occ_forms_expressions.specs.declared.tree.Element.{Element}
use Rattle.occ_forms_expressions.specs.declared.tree.Expr.{Expr}
use Rattle.occ_scope.specs.declared.scope.Scope.{Scope}
use Rattle.occ_typing_operands.specs.declared.kind.Kind.{Kind}
use Rattle.occ_typing_operands.specs.declared.kind.Kind.TheVariants as k
use Rattle.occ_typing_rules.specs.Placing.{all_placed, each_placed, placed}
use Rattle.occ_typing_rules.specs.declared.open_expr.OpenExpr.{OpenExpr}
use Rattle.occ_typing_rules.specs.declared.expr.TypedElement.{TypedElement, out-TypedElement}
use Rattle.occ_typing_rules.specs.declared.expr.TypedExpr.{TypedExpr}
use Rattle.occ_types.specs.declared.types.OccType.{OccType}
use Rattle.occ_types.specs.declared.types.OccType.TheVariants as t
use Rattle.occ_types.specs.declared.value.Primitive.TheVariants as p
use Rattle.occ_typing_statements.specs.declared.statement.TypedAssignment.{TypedAssignment}

abbrev pub open_exprs : Scope → List Expr → List OpenExpr
open_exprs s [] = []
open_exprs s (e ∷ es) = (expr_view e).open_expr s ∷ open_exprs s es

-- ---- assignments: each value is of the type of its target; one call stands for each of its results

abbrev pub with_elements : Option (List TypedElement) → Option (List TypedElement) → Option (List TypedElement)
with_elements None ys = None
with_elements (Some xs) None = None
with_elements (Some xs) (Some ys) = Some (xs ++ ys)

abbrev pub one_element : Option TypedElement → Option (List TypedElement)
one_element None = None
one_element (Some x) = Some (x ∷ [])

abbrev pub target_trees : Scope → List Element → Option (List TypedElement)
target_trees s [] = Some []
target_trees s (el ∷ els) = with_elements (one_element ((element_view el).tree s)) (target_trees s els)

abbrev pub types_of : List TypedElement → List OccType
types_of [] = []
types_of (el ∷ els) = (out-TypedElement el).known.of ∷ types_of els

abbrev pub assigned_values : List TypedElement → Option (List TypedExpr) → Option TypedAssignment
assigned_values els None = None
assigned_values els (Some ts) = Some (record { targets = els; values = ts })

abbrev pub assigned : Option (List TypedElement) → List OpenExpr → Option TypedAssignment
assigned None xs = None
assigned (Some els) xs = assigned_values els (each_placed xs (types_of els))

abbrev pub assignment_tree : Scope → List Element → List Expr → Option TypedAssignment
assignment_tree s els es = assigned (target_trees s els) (side s es).open_exprs

-- ---- conditions are BOOL, a selector is an integer or a BYTE, and its options are of its type

abbrev pub condition_tree : Scope → Expr → Option TypedExpr
condition_tree s e = placed ((expr_view e).open_expr s) (t.Primitive p.Bool)

abbrev pub options_placed : Kind → List OpenExpr → Option (List TypedExpr)
options_placed k.Faulty xs = None
options_placed (k.Untyped f) xs = None
options_placed (k.Known x) xs = all_placed xs x.of

abbrev pub options_trees : Scope → Kind → List Expr → Option (List TypedExpr)
options_trees s kind es = options_placed kind (open_exprs s es)

-- ---- results of a FUNCTION, each of the type at its place

abbrev pub results_trees : Scope → List OccType → List Expr → Option (List TypedExpr)
results_trees s types es = each_placed (side s es).open_exprs types
