-- The actuals of an instance of a PROC, each as its formal takes it.
use Rattle.std.specs.Prelude.{◌==◌, ◌&&◌, ◌||◌, Bool, true, false, Option, Some, None, List, [], ◌∷◌, ◌++◌, length, map, if◌then◌else◌}
use Rattle.occ_base.specs.Reporting.{nameless}
use Rattle.occ_base.specs.declared.code.Code.TheVariants as code
use Rattle.occ_base.specs.declared.fault.Fault.{Fault}
use Rattle.occ_expr_operations.specs.Parts.{Said}
use Rattle.occ_expr_operations.specs.Sides.{Side, each_one}
use Rattle.occ_expr_operations.specs.Views.{element_view, expr_view}
use Rattle.occ_forms_expressions.specs.declared.tree.Bounds.{Bounds}
use Rattle.occ_forms_expressions.specs.declared.tree.Bounds.TheOpen.{Element-F, Expr-F, Operand-F}
use Rattle.occ_forms_expressions.specs.declared.tree.Builtin.{Builtin}
use Rattle.occ_forms_expressions.specs.declared.tree.Dimension.{Dimension}
use Rattle.occ_forms_expressions.specs.declared.tree.Element.{Element, out-Element}
use Rattle.occ_forms_expressions.specs.declared.tree.Expr.{Expr, out-Expr}
use Rattle.occ_forms_expressions.specs.declared.tree.NamedOperand.{NamedOperand}
use Rattle.occ_forms_expressions.specs.declared.tree.Operand.{Operand, out-Operand}
use Rattle.occ_forms_expressions.specs.declared.tree.TypeForm.{TypeForm}
use Rattle.occ_scope.specs.Visible.{visible}
use Rattle.occ_scope.specs.declared.meaning.Meaning.{Meaning}
use Rattle.occ_scope.specs.declared.meaning.Meaning.TheVariants as m
use Rattle.occ_scope.specs.declared.scope.Scope.{Scope}
use Rattle.occ_typing_operands.specs.Operators.{is_faulty}
use Rattle.occ_typing_operands.specs.Settling.{Finding, fault_of, silent}
use Rattle.occ_typing_operands.specs.declared.kind.Kind.{Kind}
use Rattle.occ_typing_operands.specs.declared.kind.Kind.TheVariants as k
use Rattle.occ_typing_tables.specs.Terms.{alone, and_then, judged, judged_all}
use Rattle.occ_typing_rules.specs.Numbering.{of_another_number}
use Rattle.occ_typing_rules.specs.Placing.{placed}
use Rattle.occ_typing_rules.specs.declared.expr.TypedActual.{TypedActual}
use Rattle.occ_typing_rules.specs.declared.expr.TypedActual.TheVariants as actual
use Rattle.occ_typing_rules.specs.declared.expr.TypedElement.{TypedElement}
use Rattle.occ_typing_rules.specs.declared.expr.TypedExpr.{TypedExpr}
use Rattle.occ_expr.specs.Targets.{target_of}
use Rattle.occ_types.specs.Fits.{fits}
use Rattle.occ_types.specs.View.{as_channel, is_any}
use Rattle.occ_types.specs.declared.interface.Formal.{Formal}
use Rattle.occ_types.specs.declared.interface.Passing.{Passing}
use Rattle.occ_types.specs.declared.interface.Passing.TheVariants as passing
use Rattle.occ_types.specs.declared.types.OccType.{OccType}
use Rattle.occ_types.specs.declared.types.Protocol.{Protocol}

-- ---- elements among actuals

abbrev pub has_one : List Expr → Bool
has_one [] = false
has_one (e ∷ []) = true
has_one (e ∷ f ∷ es) = false

-- `n[e]` with a data type n is a conversion
abbrev pub converts : Option Meaning → List Expr → Bool
converts None es = false
converts (Some m.Faulty) es = false
converts (Some (m.Type of)) es = has_one es
converts (Some (m.Protocol p)) es = false
converts (Some (m.Procedure formals)) es = false
converts (Some (m.Function formals results)) es = false
converts (Some (m.Element whole)) es = false

abbrev pub element_layer : Scope → Element-F Bounds Builtin Dimension Element Expr NamedOperand Operand TypeForm → Bool
element_layer s (Element-F.Element::Named name es) = converts (visible s name) es
element_layer s (Element-F.Segment el bounds es) = false

abbrev pub is_conversion : Scope → Element → Bool
is_conversion s el = element_layer s (out-Element el)

abbrev pub unless_conversion : Scope → Element → Option Element
unless_conversion s el = if is_conversion s el then None else Some el

abbrev pub operand_layer : Scope → Operand-F Bounds Builtin Dimension Element Expr NamedOperand Operand TypeForm → Option Element
operand_layer s (Operand-F.Operand::Element el) = unless_conversion s el
operand_layer s (Operand-F.Operand::Literal lit) = None
operand_layer s (Operand-F.Operand::Decorated lit of) = None
operand_layer s (Operand-F.Operand::Truth b) = None
operand_layer s (Operand-F.Parens e) = None
operand_layer s (Operand-F.Operand::Table e es) = None
operand_layer s (Operand-F.Operand::DecoratedTable e es of) = None
operand_layer s (Operand-F.Operand::Call name es) = None

abbrev pub expr_layer : Scope → Expr-F Bounds Builtin Dimension Element Expr NamedOperand Operand TypeForm → Option Element
expr_layer s (Expr-F.Alone o) = operand_layer s (out-Operand o)
expr_layer s (Expr-F.Run operator a b os) = None
expr_layer s (Expr-F.Pair a operator b) = None
expr_layer s (Expr-F.Applied operator o) = None
expr_layer s (Expr-F.Converted ds builtin o) = None
expr_layer s (Expr-F.ArrayConverted d ds name o) = None
expr_layer s (Expr-F.Expr::Named name o) = None
expr_layer s (Expr-F.Most extreme of) = None

-- the element that an expression is, if it is one, not in parentheses
abbrev pub element_in : Scope → Expr → Option Element
element_in s e = expr_layer s (out-Expr e)

-- ---- variables, channels and timers

abbrev pub any_carried : Option Protocol → Bool
any_carried None = false
any_carried (Some c) = is_any c

abbrev pub is_carried : Option Protocol → Bool
is_carried None = false
is_carried (Some c) = true

-- a formal takes what is of its type, and one that is just CHAN OF ANY every channel
unfoldable pub takes : OccType → OccType → Bool
takes of from = any_carried (as_channel of) && is_carried (as_channel from) || fits of from

abbrev pub taken : OccType → Kind → Finding
taken of k.Faulty = silent
taken of (k.Untyped f) = silent
taken of (k.Known x) = if takes of x.of then record { faults = []; kind = k.Known x } else fault_of code.T2

-- what is passed may be written, and is of the type of the formal
abbrev pub element_faults : Scope → OccType → Element → List Fault
element_faults s of el = (and_then (target_of s el) (taken of)).faults

-- a value is no element: it is judged by itself, and T3 is reported of it unless it is faulty
abbrev pub no_element : Finding → List Fault
no_element x = x.faults ++ (if is_faulty x.kind then [] else nameless code.T3 ∷ [])

abbrev pub misplaced_value : Said → List Fault
misplaced_value x = x.faults ++ no_element (alone (judged x.term))

abbrev pub reference_faults : Scope → OccType → Expr → Option Element → List Fault
reference_faults s of e None = misplaced_value ((expr_view e).said s)
reference_faults s of e (Some el) = element_faults s of el

abbrev pub variable_of : Option TypedElement → Option TypedActual
variable_of None = None
variable_of (Some el) = Some (actual.Variable el)

abbrev pub reference_tree : Scope → Option Element → Option TypedActual
reference_tree s None = None
reference_tree s (Some el) = variable_of ((element_view el).tree s)

-- ---- values

abbrev pub value_by : OccType → Said → List Fault
value_by of x = x.faults ++ ((judged x.term).under of).faults

abbrev pub value_of : Option TypedExpr → Option TypedActual
value_of None = None
value_of (Some t) = Some (actual.Value t)

-- ---- by the formal

abbrev pub actual_faults : Scope → OccType → Passing → Expr → List Fault
actual_faults s of passing.Value e = value_by of ((expr_view e).said s)
actual_faults s of passing.Reference e = reference_faults s of e (element_in s e)

abbrev pub actual_tree : Scope → OccType → Passing → Expr → Option TypedActual
actual_tree s of passing.Value e = value_of (placed ((expr_view e).open_expr s) of)
actual_tree s of passing.Reference e = reference_tree s (element_in s e)

abbrev pub each_faults : Scope → List Formal → List Expr → List Fault
each_faults s [] es = []
each_faults s (f ∷ fs) [] = []
each_faults s (f ∷ fs) (e ∷ es) = actual_faults s f.of f.passing e ++ each_faults s fs es

abbrev pub with_actuals : Option (List TypedActual) → Option (List TypedActual) → Option (List TypedActual)
with_actuals None ys = None
with_actuals (Some xs) None = None
with_actuals (Some xs) (Some ys) = Some (xs ++ ys)

abbrev pub one_actual : Option TypedActual → Option (List TypedActual)
one_actual None = None
one_actual (Some x) = Some (x ∷ [])

abbrev pub each_tree : Scope → List Formal → List Expr → Option (List TypedActual)
each_tree s [] es = Some []
each_tree s (f ∷ fs) [] = Some []
each_tree s (f ∷ fs) (e ∷ es) = with_actuals (one_actual (actual_tree s f.of f.passing e)) (each_tree s fs es)

-- of more or fewer actuals than formals each is judged by itself
abbrev pub another_number : Side → List Fault
another_number x = x.faults ++ of_another_number false (map alone (judged_all x.terms))

unfoldable pub actuals_faults : Scope → List Formal → List Expr → List Fault
actuals_faults s formals es = if length formals == length es then each_faults s formals es else another_number (each_one s es)

unfoldable pub actuals_tree : Scope → List Formal → List Expr → Option (List TypedActual)
actuals_tree s formals es = if length formals == length es then each_tree s formals es else None
