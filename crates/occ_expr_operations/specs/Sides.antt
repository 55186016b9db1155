-- Whole right sides: of assignments, and of what gives a FUNCTION its results. One call of a function counts there as all of
-- its results.
use Rattle.std.specs.Prelude.{ℕ, Option, Some, None, List, [], ◌∷◌, if◌then◌else◌}
use Rattle.occ_base.specs.declared.fault.Fault.{Fault}
use Rattle.occ_forms_expressions.specs.declared.tree.Bounds.{Bounds}
use Rattle.occ_forms_expressions.specs.declared.tree.Bounds.TheOpen.{Expr-F, Operand-F}
use Rattle.occ_forms_expressions.specs.declared.tree.Builtin.{Builtin}
use Rattle.occ_forms_expressions.specs.declared.tree.Dimension.{Dimension}
use Rattle.occ_forms_expressions.specs.declared.tree.Element.{Element}
use Rattle.occ_forms_expressions.specs.declared.tree.Expr.{Expr, out-Expr}
use Rattle.occ_forms_expressions.specs.declared.tree.NamedOperand.{NamedOperand}
use Rattle.occ_forms_expressions.specs.declared.tree.Operand.{Operand, out-Operand}
use Rattle.occ_forms_expressions.specs.declared.tree.TypeForm.{TypeForm}
use Rattle.occ_scope.specs.Visible.{referent, visible}
use Rattle.occ_scope.specs.declared.meaning.Meaning.{Meaning}
use Rattle.occ_scope.specs.declared.meaning.Meaning.TheVariants as m
use Rattle.occ_scope.specs.declared.meaning.Referent.{Referent}
use Rattle.occ_scope.specs.declared.scope.Scope.{Scope}
use Rattle.occ_typing_operands.specs.Settling.{known}
use Rattle.occ_typing_operands.specs.declared.kind.Kind.TheVariants as k
use Rattle.occ_typing_tables.specs.declared.term.Term.{Term}
use Rattle.occ_typing_tables.specs.declared.term.Term.TheVariants as v
use Rattle.occ_typing_rules.specs.Calling.{Matched}
use Rattle.occ_typing_rules.specs.declared.open_expr.OpenExpr.{OpenExpr}
use Rattle.occ_typing_rules.specs.declared.open_expr.OpenExpr.TheVariants as d
use Rattle.occ_typing_rules.specs.declared.expr.TypedExpr.{TypedExpr}
use Rattle.occ_types.specs.declared.interface.Formal.{Formal}
use Rattle.occ_types.specs.declared.types.OccType.{OccType}
use Rattle.occ_expr_operations.specs.OpenExprs.{called_tree, opened}
use Rattle.occ_expr_operations.specs.Parts.{actuals, in_scope, own_faults, terms}
use Rattle.occ_expr_operations.specs.Views.{expr_views, item_opens}

-- ---- calls

-- a name that is called, and what stands in its parentheses
abbrev pub Called : Type 0
Called = List ℕ × List Expr

abbrev pub operand_layer : Operand-F Bounds Builtin Dimension Element Expr NamedOperand Operand TypeForm → Option Called
operand_layer (Operand-F.Operand::Element el) = None
operand_layer (Operand-F.Operand::Literal lit) = None
operand_layer (Operand-F.Operand::Decorated lit of) = None
operand_layer (Operand-F.Operand::Truth b) = None
operand_layer (Operand-F.Parens e) = None
operand_layer (Operand-F.Operand::Table e es) = None
operand_layer (Operand-F.Operand::DecoratedTable e es of) = None
operand_layer (Operand-F.Operand::Call name es) = Some (name, es)

abbrev pub expr_layer : Expr-F Bounds Builtin Dimension Element Expr NamedOperand Operand TypeForm → Option Called
expr_layer (Expr-F.Alone o) = operand_layer (out-Operand o)
expr_layer (Expr-F.Run operator a b os) = None
expr_layer (Expr-F.Pair a operator b) = None
expr_layer (Expr-F.Applied operator o) = None
expr_layer (Expr-F.Converted ds builtin o) = None
expr_layer (Expr-F.ArrayConverted d ds name o) = None
expr_layer (Expr-F.Expr::Named name o) = None
expr_layer (Expr-F.Most extreme of) = None

-- the call that an expression is, if it is one, not in parentheses
abbrev pub call_in : Expr → Option Called
call_in e = expr_layer (out-Expr e)

-- the call that a list of expressions is
abbrev pub one_call : List Expr → Option Called
one_call [] = None
one_call (e ∷ []) = call_in e
one_call (e ∷ f ∷ es) = None

-- ---- sides

-- of the values of a side: their faults, what they are before types are wanted of them, and their open expressions
pub record Side : Type 0 where
  pub faults : List Fault
  pub terms : List Term
  pub open_exprs : List OpenExpr

-- each expression is a value
abbrev pub each_one : Scope → List Expr → Side
each_one s es =
    let xs = in_scope s (expr_views es) in record { faults = own_faults xs; terms = terms xs; open_exprs = item_opens s (expr_views es) }

abbrev pub result_terms : List OccType → List Term
result_terms [] = []
result_terms (of ∷ types) = v.Single (known of None) ∷ result_terms types

-- the call stands for each of its results
abbrev pub result_opens : Option TypedExpr → List OccType → List OpenExpr
result_opens call [] = []
result_opens call (of ∷ types) = opened call ∷ result_opens call types

abbrev pub call_of_first : List OccType → Option Referent → List Formal → List OpenExpr → Option TypedExpr
call_of_first [] r formals xs = None
call_of_first (of ∷ types) r formals xs = called_tree of r formals xs

-- a faulty call is one faulty value
abbrev pub results_after : Matched → Option TypedExpr → List OccType → Side
results_after x call results =
    if x.is_faulty
    then record { faults = x.faults; terms = v.Single k.Faulty ∷ []; open_exprs = d.Faulty ∷ [] }
    else record { faults = x.faults; terms = result_terms results; open_exprs = result_opens call results }

unfoldable pub results_side : Scope → List ℕ → List Expr → List Formal → List OccType → Side
results_side s name es formals results =
    results_after
    (actuals formals (in_scope s (expr_views es)))
    (call_of_first results (referent s name) formals (item_opens s (expr_views es)))
    results

abbrev pub call_side : Scope → List Expr → List ℕ → List Expr → Option Meaning → Side
call_side s all name es (Some (m.Function formals results)) = results_side s name es formals results
call_side s all name es found = each_one s all

abbrev pub side_by : Scope → List Expr → Option Called → Side
side_by s all None = each_one s all
side_by s all (Some call) = call_side s all call.0 call.1 (visible s call.0)

-- a whole right side
unfoldable pub side : Scope → List Expr → Side
side s es = side_by s es (one_call es)
