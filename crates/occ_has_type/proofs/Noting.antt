-- What a typed tree notes of an expression that is no table is what is known of the expression.
use Rattle.std.proofs.Common.{◌≡◌, ◌∙◌, ◌⊎◌, inl, inr, ℕ, suc, length, Bool, true, List, [], ◌∷◌, Option, Some, None, refl, ap, sym, subst}
use Rattle.occ_expr_operations.specs.Elements.{element_of, element_open, selectors}
use Rattle.occ_expr_operations.specs.Literals.{literal, truth}
use Rattle.occ_expr_operations.specs.OpenExprs.{applied_open, called_tree, conversion_open, converted_of, converted_to, decorated_open, front_open, items_placed, literal_open, negated_open, opened, operand_call, operands_type, operation_open, pair_open, shift_open, shifted_known, shifted_untyped, size_of, size_open, type_alone, typed_call, formal_types}
use Rattle.occ_expr_operations.specs.Operations.{converted, pair_operator, plain, run_operator}
use Rattle.occ_expr_operations.specs.Parts.{ExprView, Said, call, call_of, call_of_type, element_of_type, function_call, in_scope, named, named_element, no_call, one_result, only, segment_element, table, whole_element, whole_element_of}
use Rattle.occ_expr_operations.specs.Views.{BoundsView, ElementView, OperandView, bounds_view, call_open, call_open_of, converted_call, converted_element, element_view, expr_view, expr_views, item_opens, named_tree, operand_opens, operand_view, operand_views, part_of, segment_tree, whole_element_open, whole_open_of}
use Rattle.occ_expr_operations.proofs.Views as views
use Rattle.occ_forms_expressions.proofs.Induction.{Steps, every_expr}
use Rattle.occ_forms_expressions.specs.declared.tree.Element.{Element}
use Rattle.occ_forms_expressions.specs.declared.tree.Expr.{Expr}
use Rattle.occ_forms_expressions.specs.declared.tree.MonadicOperator.{MonadicOperator}
use Rattle.occ_forms_expressions.specs.declared.tree.MonadicOperator.TheVariants as mo
use Rattle.occ_forms_expressions.specs.declared.tree.Operand.{Operand}
use Rattle.occ_forms_expressions.specs.declared.tree.PairOperator.{PairOperator}
use Rattle.occ_forms_expressions.specs.declared.tree.PairOperator.TheVariants as po
use Rattle.occ_scope.specs.Lookup.{element}
use Rattle.occ_scope.specs.Visible.{referent, visible}
use Rattle.occ_scope.specs.declared.meaning.Meaning.{Meaning}
use Rattle.occ_scope.specs.declared.meaning.Meaning.TheVariants as meaning
use Rattle.occ_scope.specs.declared.meaning.Referent.{Referent}
use Rattle.occ_scope.specs.declared.scope.Scope.{Scope}
use Rattle.occ_typing_operands.specs.Operators.{value_outcome}
use Rattle.occ_typing_operands.specs.Outcomes.{in_type}
use Rattle.occ_typing_operands.specs.Settling.{base_of, int, known, number}
use Rattle.occ_typing_operands.specs.declared.kind.Untyped.{Untyped}
use Rattle.occ_typing_operands.specs.declared.kind.Kind.{Kind}
use Rattle.occ_typing_operands.specs.declared.kind.Kind.TheVariants as k
use Rattle.occ_typing_operands.specs.declared.kind.Known.{Known}
use Rattle.occ_typing_rules.specs.Placing.{array_known, count_of, placed_table, table_under, all_placed, applied_of, constant_in, each_placed, known_in, known_of, operation_of, placed, shifted_of, table_of, value_in_base}
use Rattle.occ_typing_rules.specs.declared.open_expr.OpenExpr.{OpenExpr}
use Rattle.occ_typing_rules.specs.declared.open_expr.OpenExpr.TheVariants as d
use Rattle.occ_typing_rules.specs.declared.expr.Selector.{Selector}
use Rattle.occ_typing_rules.specs.declared.expr.Selector.TheViews.{out-roll-TypedElement}
use Rattle.occ_typing_rules.specs.declared.expr.TypedElement.{TypedElement, out-TypedElement}
use Rattle.occ_typing_rules.specs.declared.expr.TypedExpr.{TypedExpr}
use Rattle.occ_typing_rules.proofs.Knowing.{known_applied, known_call, known_converted, known_element, known_literal, known_operation, known_size, known_table}
use Rattle.occ_typing_rules.proofs.OpenPlacing.{placed_as_table, placed_applied, placed_faulty, placed_literal, placed_operation, placed_shifted, placed_typed}
use Rattle.occ_typing_tables.specs.Terms.{Judged, judged}
use Rattle.occ_typing_tables.specs.declared.term.Term.{Term, out-Term}
use Rattle.occ_typing_tables.specs.declared.term.Term.TheOpen.{Term-F}
use Rattle.occ_typing_tables.specs.declared.term.Term.TheViews.{out-roll-Term}
use Rattle.occ_typing_tables.specs.declared.term.Term.TheVariants as v
use Rattle.occ_types.specs.Fits.{fits}
use Rattle.occ_types.specs.declared.constant.Monadic.{Monadic}
use Rattle.occ_types.specs.declared.constant.Monadic.TheVariants as m
use Rattle.occ_types.specs.declared.constant.Operator.{Operator}
use Rattle.occ_types.specs.declared.constant.Operator.TheVariants as op
use Rattle.occ_types.specs.declared.interface.Formal.{Formal}
use Rattle.occ_types.specs.View.{as_array}
use Rattle.occ_types.specs.declared.types.OccType.{OccType}
use Rattle.occ_types.specs.declared.types.OccType.TheVariants as types
use Rattle.occ_types.specs.declared.value.Primitive.{Primitive}
use Rattle.occ_types.specs.declared.value.Value.{Value}
use Rattle.occ_has_type.specs.Free.{is_free}
use Rattle.occ_has_type.specs.Trees.{part}
use Rattle.occ_has_type.specs.Types.{HasType, IsTableExpr, IsTableOperand}
use Rattle.occ_has_type.specs.Types as has
use Rattle.occ_has_type.proofs.Exactly.{has_type}
use Rattle.occ_has_type.proofs.Finding.{Comes, free_same}
use Rattle.occ_has_type.proofs.Gives.{Any, any_is, back}
use Rattle.occ_has_type.proofs.Means.{Knows, knows_unless, value_back}
use Rattle.occ_has_type.proofs.Reaching.{Says}

-- a tree of which this is known
abbrev Notes : Known → TypedExpr → Type 0
Notes x t = known_of t ≡ x

-- each tree that it becomes notes what is known of it; what is free takes the type
abbrev Opens : Kind → OpenExpr → Type 0
Opens k.Faulty x = Unit {0}
Opens (k.Untyped f) x = (to : OccType) → Any (Notes (known_in f to)) (placed x to)
Opens (k.Known y) x = (to : OccType) → Any (Notes y) (placed x to)

faulty_opens : (kind : Kind) → Opens kind d.Faulty
faulty_opens k.Faulty = tt
faulty_opens (k.Untyped f) = λ to. back (Notes (known_in f to)) _ _ (placed_faulty to) tt
faulty_opens (k.Known y) = λ to. back (Notes y) _ _ (placed_faulty to) tt

opened_opens : (y : Known) (t : Option TypedExpr) → Any (Notes y) t → Opens (k.Known y) (opened t)
opened_opens y None h = faulty_opens (k.Known y)
opened_opens y (Some t) h = λ to. back (Notes y) _ _ (placed_typed t to) h

literal_opens : (kind : Kind) → Opens kind (literal_open kind)
literal_opens k.Faulty = tt
literal_opens (k.Untyped f) = λ to. back (Notes (known_in f to)) _ _ (placed_literal f to) (known_literal (known_in f to))
literal_opens (k.Known y) = λ to. back (Notes y) _ _ (placed_typed _ to) (known_literal y)

any_operation : (x : Known) (operator : Operator) (ts : Option (List TypedExpr)) → Any (Notes x) (operation_of x operator ts)
any_operation x operator None = tt
any_operation x operator (Some ts) = known_operation x operator ts

any_shifted : (x : Known) (operator : Operator) (t : Option TypedExpr) (count : TypedExpr) → Any (Notes x) (shifted_of x operator t count)
any_shifted x operator None count = tt
any_shifted x operator (Some t) count = known_operation x operator (t ∷ count ∷ [])

any_known_shift : (x : Known) (operator : Operator) (t count : Option TypedExpr) → Any (Notes x) (shifted_known x operator t count)
any_known_shift x operator t None = tt
any_known_shift x operator t (Some count) = any_shifted x operator t count

any_applied : (x : Known) (operator : Monadic) (t : Option TypedExpr) → Any (Notes x) (applied_of x operator t)
any_applied x operator None = tt
any_applied x operator (Some t) = known_applied x operator t

any_size : (x : Known) (t : Option TypedExpr) → Any (Notes x) (size_of x t)
any_size x None = tt
any_size x (Some t) = known_size x t

any_converted : (x : Known) (t : Option TypedExpr) → Any (Notes x) (converted_of x t)
any_converted x None = tt
any_converted x (Some t) = known_converted x t

any_table : (x : Known) (ts : Option (List TypedExpr)) → Any (Notes x) (table_of x ts)
any_table x None = tt
any_table x (Some ts) = known_table x ts

any_call : (x : Known) (r : Option Referent) (ts : Option (List TypedExpr)) → Any (Notes x) (typed_call x r ts)
any_call x None ts = tt
any_call x (Some r) None = tt
any_call x (Some r) (Some ts) = known_call x r _

-- ---- operators

operation_opens : (whole : Kind) (operator : Operator) (xs : List OpenExpr) → Opens whole (operation_open whole operator xs)
unfolding operation_open
operation_opens k.Faulty operator xs = tt
operation_opens (k.Untyped f) operator xs = λ to. back (Notes (known_in f to)) _ _ (placed_operation f operator xs to) (any_operation (known_in f to) operator (all_placed xs to))
operation_opens (k.Known y) operator xs = opened_opens y (operation_of y operator (all_placed xs (operands_type xs))) (any_operation y operator (all_placed xs (operands_type xs)))

untyped_shift_opens : (f : Untyped) (operator : Operator) (x : OpenExpr) (count : Option TypedExpr) → Opens (k.Untyped f) (shifted_untyped f operator x count)
untyped_shift_opens f operator x None = faulty_opens (k.Untyped f)
untyped_shift_opens f operator x (Some count) = λ to. back (Notes (known_in f to)) _ _ (placed_shifted f operator x count to) (any_shifted (known_in f to) operator (placed x to) count)

shift_opens : (whole : Kind) (operator : Operator) (x count : OpenExpr) → Opens whole (shift_open whole operator x count)
unfolding shift_open
shift_opens k.Faulty operator x count = tt
shift_opens (k.Untyped f) operator x count = untyped_shift_opens f operator x (placed count int)
shift_opens (k.Known y) operator x count = opened_opens y (shifted_known y operator (placed x y.of) (placed count int)) (any_known_shift y operator (placed x y.of) (placed count int))

pair_opens : (whole : Kind) (operator : PairOperator) (x y : OpenExpr) → Opens whole (pair_open whole operator x y)
unfolding pair_open
pair_opens whole po.ShiftLeft x y = shift_opens whole op.ShiftLeft x y
pair_opens whole po.ShiftRight x y = shift_opens whole op.ShiftRight x y
pair_opens whole operator x y = operation_opens whole (pair_operator operator) (x ∷ y ∷ [])

front_opens : (whole : Kind) (operator : Monadic) (x : OpenExpr) → Opens whole (front_open whole operator x)
unfolding front_open
front_opens k.Faulty operator x = tt
front_opens (k.Untyped f) operator x = λ to. back (Notes (known_in f to)) _ _ (placed_applied f operator x to) (any_applied (known_in f to) operator (placed x to))
front_opens (k.Known y) operator x = opened_opens y (applied_of y operator (placed x y.of)) (any_applied y operator (placed x y.of))

negated_opens : (whole : Kind) (digits : Option ℕ) (x : OpenExpr) → Opens whole (negated_open whole digits x)
negated_opens whole None x = front_opens whole m.Negate x
negated_opens whole (Some n) x = literal_opens whole

size_opens : (whole operand : Kind) (x : OpenExpr) → Opens whole (size_open whole operand x)
size_opens k.Faulty operand x = tt
size_opens (k.Untyped f) operand x = faulty_opens (k.Untyped f)
size_opens (k.Known y) operand x = opened_opens y (size_of y (placed x (type_alone operand))) (any_size y (placed x (type_alone operand)))

applied_opens : (whole : Kind) (operator : MonadicOperator) (digits : Option ℕ) (j : Judged) (x : OpenExpr) → Opens whole (applied_open whole operator digits j x)
unfolding applied_open
applied_opens whole mo.Negate digits j x = negated_opens whole digits x
applied_opens whole mo.Minus digits j x = front_opens whole m.Minus x
applied_opens whole mo.BitNot digits j x = front_opens whole m.BitNot x
applied_opens whole mo.BitNotWord digits j x = front_opens whole m.BitNot x
applied_opens whole mo.Not digits j x = front_opens whole m.Not x
applied_opens whole mo.Size digits j x = size_opens whole j.alone.kind x

-- ---- conversions and tables with their type

converted_opens : (whole operand : Kind) (x : OpenExpr) → Opens whole (converted_to whole operand x)
converted_opens k.Faulty operand x = tt
converted_opens (k.Untyped f) operand x = faulty_opens (k.Untyped f)
converted_opens (k.Known y) operand x = opened_opens y (converted_of y (placed x (type_alone operand))) (any_converted y (placed x (type_alone operand)))

conversion_opens : (to : Option OccType) (j : Judged) (x : OpenExpr) → Opens (converted to j).kind (conversion_open to j x)
unfolding conversion_open
conversion_opens to j x = converted_opens (converted to j).kind (plain j).kind x

decorated_opens : (whole : Kind) (xs : List OpenExpr) → Opens whole (decorated_open whole xs)
unfolding decorated_open
decorated_opens k.Faulty xs = tt
decorated_opens (k.Untyped f) xs = faulty_opens (k.Untyped f)
decorated_opens (k.Known y) xs = opened_opens y (table_of y (items_placed xs y.of)) (any_table y (items_placed xs y.of))

-- ---- calls

no_value : (x : Known) → x.value ≡ None → record { of = x.of; value = None } ≡ x
no_value x is = ap (λ (w : Option Value). record { of = x.of; value = w }) (sym is)

called_any : (x : Known) (r : Option Referent) (formals : List Formal) (xs : List OpenExpr) → x.value ≡ None → Any (Notes x) (called_tree x.of r formals xs)
unfolding called_tree
called_any x r formals xs is = subst (λ (y : Known). Any (Notes y) (typed_call (record { of = x.of; value = None }) r (each_placed xs (formal_types formals)))) (no_value x is) (any_call (record { of = x.of; value = None }) r (each_placed xs (formal_types formals)))

function_opens : (whole : Kind) (r : Option Referent) (formals : List Formal) (xs : List OpenExpr) → Knows (λ x. x.value ≡ None) whole → Opens whole (operand_call whole r formals xs)
function_opens k.Faulty r formals xs h = tt
function_opens (k.Untyped f) r formals xs h = absurd h
function_opens (k.Known x) r formals xs h = opened_opens x (called_tree x.of r formals xs) (called_any x r formals xs h)

one_value : (results : List OccType) → Knows (λ x. x.value ≡ None) (one_result results).kind
one_value [] = tt
one_value (of ∷ []) = refl
one_value (of ∷ u ∷ us) = tt

function_value : (formals : List Formal) (results : List OccType) (xs : List Said) → Knows (λ x. x.value ≡ None) (function_call formals results xs).kind
unfolding function_call
function_value formals results xs = knows_unless (λ x. x.value ≡ None) _ (one_result results) (λ _. one_value results)

type_call_opens : (s : Scope) (name : List ℕ) (es : List ExprView) (to : Option OccType) → Opens (call_of_type s name es to (only es)).kind (converted_call s to (only es))
type_call_opens s name [] to = faulty_opens (no_call s name []).kind
type_call_opens s name (e ∷ []) to = conversion_opens to (judged (e.said s).term) (e.open_expr s)
type_call_opens s name (e ∷ f ∷ es) to = faulty_opens (no_call s name (e ∷ f ∷ es)).kind

call_of_opens : (s : Scope) (name : List ℕ) (es : List ExprView) (found : Option Meaning) → Opens (call_of s name es found).kind (call_open_of s name es found)
call_of_opens s name es None = faulty_opens (no_call s name es).kind
call_of_opens s name es (Some meaning.Faulty) = faulty_opens (no_call s name es).kind
call_of_opens s name es (Some (meaning.Type to)) = type_call_opens s name es to
call_of_opens s name es (Some (meaning.Protocol c)) = faulty_opens (no_call s name es).kind
call_of_opens s name es (Some (meaning.Procedure fs)) = faulty_opens (no_call s name es).kind
call_of_opens s name es (Some (meaning.Function formals results)) =
    function_opens (function_call formals results (in_scope s es)).kind (referent s name) formals (item_opens s es) (function_value formals results (in_scope s es))
call_of_opens s name es (Some (meaning.Element w)) = faulty_opens (no_call s name es).kind

call_opens : (s : Scope) (name : List ℕ) (es : List ExprView) → Opens (call s name es).kind (call_open s name es)
unfolding call call_open
call_opens s name es = call_of_opens s name es (visible s name)

-- ---- elements

element_opens : (kind : Kind) (name : List ℕ) (r : Option Referent) (ss : Option (List Selector)) → Opens kind (element_open (element_of kind name r ss))
unfolding element_of
element_opens k.Faulty name r ss = tt
element_opens (k.Untyped f) name r ss = faulty_opens (k.Untyped f)
element_opens (k.Known x) name None ss = faulty_opens (k.Known x)
element_opens (k.Known x) name (Some r) None = faulty_opens (k.Known x)
element_opens (k.Known x) name (Some r) (Some ss) = λ to. back (Notes x) _ _ (placed_typed _ to) (known_element (part x name r ss) ∙ ap (λ y. y.known) (out-roll-TypedElement (record { known = x; name = name; referent = r; selectors = ss })))

named_opens : (s : Scope) (name : List ℕ) (es : List ExprView) → Opens (named_element s name es).kind (element_open (named_tree s name es))
unfolding named_tree
named_opens s name es = element_opens (named_element s name es).kind name (referent s name) (selectors s es (named (element name (visible s name))).kind)

part_opens : (kind : Kind) (el : Option TypedElement) (x : Option Selector) (following : Option (List Selector)) → Opens kind (element_open (part_of kind el x following))
unfolding part_of
part_opens kind None x following = faulty_opens kind
part_opens kind (Some el) x following = element_opens kind (out-TypedElement el).name (Some (out-TypedElement el).referent) _

segment_opens : (s : Scope) (e : ElementView) (b : BoundsView) (es : List ExprView) → Opens (segment_element s (e.reported s) (b.said s) es).kind (element_open (segment_tree s e b es))
segment_opens s e b es = part_opens (segment_element s (e.reported s) (b.said s) es).kind (e.tree s) _ _

type_opens : (s : Scope) (name : List ℕ) (es : List ExprView) (to : Option OccType) → Opens (element_of_type s name es to (only es)).kind (converted_element s to (only es) (element_open (named_tree s name es)))
type_opens s name [] to = named_opens s name []
type_opens s name (e ∷ []) to = conversion_opens to (judged (table (e.said s ∷ [])).term) (d.Table (e.open_expr s ∷ []))
type_opens s name (e ∷ f ∷ es) to = named_opens s name (e ∷ f ∷ es)

whole_of_opens : (s : Scope) (name : List ℕ) (es : List ExprView) (found : Option Meaning) → Opens (whole_element_of s name es found).kind (whole_open_of s es found (element_open (named_tree s name es)))
whole_of_opens s name es None = named_opens s name es
whole_of_opens s name es (Some meaning.Faulty) = named_opens s name es
whole_of_opens s name es (Some (meaning.Type to)) = type_opens s name es to
whole_of_opens s name es (Some (meaning.Protocol c)) = named_opens s name es
whole_of_opens s name es (Some (meaning.Procedure fs)) = named_opens s name es
whole_of_opens s name es (Some (meaning.Function fs results)) = named_opens s name es
whole_of_opens s name es (Some (meaning.Element w)) = named_opens s name es

whole_opens : (s : Scope) (name : List ℕ) (es : List ExprView) → Opens (whole_element s name es).kind (whole_element_open s name es)
unfolding whole_element whole_element_open
whole_opens s name es = whole_of_opens s name es (visible s name)

-- ---- all forms

-- one that is no table, or a table
abbrev SaidOpens : Said → OpenExpr → Type 0
SaidOpens x y = ((kind : Kind) × (x.term ≡ v.Single kind) × Opens kind y) ⊎ ((xs : List Term) × (x.term ≡ v.Table xs))

abbrev OfExpr : Expr → Type 0
OfExpr e = (s : Scope) → SaidOpens ((expr_view e).said s) ((expr_view e).open_expr s)

record ElementOpens (w : ElementView) : Type 0 where
  reported : (s : Scope) → Opens (w.reported s).kind (element_open (w.tree s))
  whole : (s : Scope) → Opens (w.whole s).kind (w.whole_open s)

abbrev OfElement : Element → Type 0
OfElement e = ElementOpens (element_view e)

record OperandOpens (w : OperandView) : Type 0 where
  part : (s : Scope) → SaidOpens (w.said s) (w.open_expr s)
  whole : (s : Scope) → SaidOpens (w.whole s) (w.whole_open s)

abbrev OfOperand : Operand → Type 0
OfOperand e = OperandOpens (operand_view e)

abbrev Anything : {X : Type 0} → X → Type 0
Anything x = Unit {0}

abbrev ExprOpens : ExprView → Type 0
ExprOpens w = (s : Scope) → SaidOpens (w.said s) (w.open_expr s)

steps : Steps Anything Anything Anything OfElement OfExpr Anything OfOperand Anything
steps = record {
  bounds_from = λ e h. tt;
  bounds_for = λ e h. tt;
  bounds_from_for = λ e f h g. tt;
  builtin_primitive = λ w. tt;
  builtin_timer = tt;
  builtin_any_channel = λ w. tt;
  builtin_channel = λ w ds b h. tt;
  builtin_counted = λ w ds b es other h g. tt;
  dimension_open = tt;
  dimension_sized = λ e h. tt;
  element_named = λ n es h. subst ElementOpens (sym (views.element_named n es)) (record { reported = λ s. named_opens s n (expr_views es); whole = λ s. whole_opens s n (expr_views es) });
  element_segment = λ e b es h g i. subst ElementOpens (sym (views.element_segment e b es))
      (record { reported = λ s. segment_opens s (element_view e) (bounds_view b) (expr_views es); whole = λ s. segment_opens s (element_view e) (bounds_view b) (expr_views es) });
  expr_alone = λ e h. subst ExprOpens (sym (views.expr_alone e)) h.whole;
  expr_run = λ operator a b es h g i. subst ExprOpens (sym (views.expr_run operator a b es)) (λ s. inl (_, refl, operation_opens _ (run_operator operator) (operand_opens s (operand_views (a ∷ b ∷ es)))));
  expr_pair = λ a operator b h g. subst ExprOpens (sym (views.expr_pair a operator b)) (λ s. inl (_, refl, pair_opens _ operator ((operand_view a).open_expr s) ((operand_view b).open_expr s)));
  expr_applied = λ operator e h. subst ExprOpens (sym (views.expr_applied operator e))
      (λ s. inl (_, refl, applied_opens _ operator (operand_view e).digits (judged ((operand_view e).said s).term) ((operand_view e).open_expr s)));
  expr_converted = λ ds b e h g i. subst ExprOpens (sym (views.expr_converted ds b e)) (λ s. inl (_, refl, conversion_opens _ _ ((operand_view e).open_expr s)));
  expr_array_converted = λ x ds n e h g i. subst ExprOpens (sym (views.expr_array_converted x ds n e)) (λ s. inl (_, refl, conversion_opens _ _ ((operand_view e).open_expr s)));
  expr_named = λ n e h. subst ExprOpens (sym (views.expr_named n e)) (λ s. inl (_, refl, conversion_opens _ _ _));
  expr_most = λ end ty h. subst ExprOpens (sym (views.expr_most end ty)) (λ s. inl (_, refl, literal_opens _));
  named_operand_element = λ e h. tt;
  named_operand_literal = λ lit. tt;
  named_operand_decorated = λ lit ty h. tt;
  named_operand_truth = λ b. tt;
  named_operand_table = λ e f es h g i. tt;
  named_operand_decorated_table = λ e es ty h g i. tt;
  named_operand_call = λ n es h. tt;
  operand_element = λ e h. subst OperandOpens (sym (views.operand_element e)) (record { part = λ s. inl (_, refl, h.reported s); whole = λ s. inl (_, refl, h.whole s) });
  operand_literal = λ lit. subst OperandOpens (sym (views.operand_literal lit)) (record { part = λ s. inl (_, refl, literal_opens (literal lit).kind); whole = λ s. inl (_, refl, literal_opens (literal lit).kind) });
  operand_decorated = λ lit ty h. subst OperandOpens (sym (views.operand_decorated lit ty)) (record { part = λ s. inl (_, refl, literal_opens _); whole = λ s. inl (_, refl, literal_opens _) });
  operand_truth = λ b. subst OperandOpens (sym (views.operand_truth b)) (record { part = λ s. inl (_, refl, literal_opens (truth b).kind); whole = λ s. inl (_, refl, literal_opens (truth b).kind) });
  operand_parens = λ e h. subst OperandOpens (sym (views.operand_parens e)) (record { part = h; whole = h });
  operand_table = λ e es h g. subst OperandOpens (sym (views.operand_table e es)) (record { part = λ s. inr (_, refl); whole = λ s. inr (_, refl) });
  operand_decorated_table = λ e es ty h g i. subst OperandOpens (sym (views.operand_decorated_table e es ty))
      (record { part = λ s. inl (_, refl, decorated_opens _ (item_opens s (expr_views (e ∷ es)))); whole = λ s. inl (_, refl, decorated_opens _ (item_opens s (expr_views (e ∷ es)))) });
  operand_call = λ n es h. subst OperandOpens (sym (views.operand_call n es)) (record { part = λ s. inl (_, refl, call_opens s n (expr_views es)); whole = λ s. inl (_, refl, call_opens s n (expr_views es)) });
  type_form_named = λ ds n h. tt;
  type_form_builtin = λ ds b h g. tt;
}

-- ---- what the tree notes

single_layer : (x : Kind) → out-Term (v.Single x) ≡ Term-F.Single x
single_layer x = ap out-Term (sym (v.rolls-Single x)) ∙ out-roll-Term (Term-F.Single x)

table_layer : (xs : List Term) → out-Term (v.Table xs) ≡ Term-F.Table xs
table_layer xs = ap out-Term (sym (v.rolls-Table xs)) ∙ out-roll-Term (Term-F.Table xs)

same_kind : (x y : Kind) → v.Single x ≡ v.Single y → x ≡ y
same_kind x y is = let at : Term-F.Single x ≡ Term-F.Single y = sym (single_layer x) ∙ ap out-Term is ∙ single_layer y in cc (at)

no_table : (x : Kind) (xs : List Term) → v.Single x ≡ v.Table xs → ⊥
no_table x xs is = let at : Term-F.Single x ≡ Term-F.Table xs = sym (single_layer x) ∙ ap out-Term is ∙ table_layer xs in cc (at)

value_noted : (f : Untyped) (of : OccType) (base : Primitive) (value : Option Value) → number (base_of of) ≡ Some base → in_type f base ≡ value_outcome value → known_in f of ≡ record { of = of; value = value }
value_noted f of base value n is = ap (λ (w : Option Value). record { of = of; value = w }) (ap (value_in_base f) n ∙ ap constant_in is ∙ value_back value)

kind_noted : (kind : Kind) (y : OpenExpr) (free : Bool) (to of : OccType) (value : Option Value) (t : TypedExpr) → Opens kind y → Comes free of value kind → fits to of ≡ true → placed y to ≡ Some t → known_of t ≡ record { of = of; value = value }
kind_noted k.Faulty y free to of value t h g fit is = absurd g
kind_noted (k.Untyped f) y free to of value t h g fit is =
    any_is (Notes (known_in f to)) (placed y to) t (h to) is ∙ ap (known_in f) (free_same free to of value (k.Untyped f) g fit g.0) ∙ value_noted f of g.2 value g.3 g.4
kind_noted (k.Known x) y free to of value t h g fit is = any_is (Notes x) (placed y to) t (h to) is ∙ known_same x of value g.1 where
  known_same : (x : Known) (of : OccType) (value : Option Value) → k.Known x ≡ known of value → x ≡ record { of = of; value = value }
  known_same x of value at = cc (at)

pub tree_noted : (s : Scope) (e : Expr) (to of : OccType) (value : Option Value) (t : TypedExpr) → HasType s e of value → fits to of ≡ true → placed ((expr_view e).open_expr s) to ≡ Some t → known_of t ≡ record { of = of; value = value }
tree_noted s e to of value t h fit is = by (has_type s e of value h) (every_expr steps e s) where
  by : (x : Says (is_free e) of value ((expr_view e).said s)) → SaidOpens ((expr_view e).said s) ((expr_view e).open_expr s) → known_of t ≡ record { of = of; value = value }
  by x (inl g) = kind_noted g.0 ((expr_view e).open_expr s) (is_free e) to of value t g.2 (subst (Comes (is_free e) of value) (same_kind x.kind g.0 (sym x.is ∙ g.1)) x.comes) fit is
  by x (inr g) = absurd (no_table x.kind g.0 (sym x.is ∙ g.1))

-- ---- tables

mutual
  expr_opens : (s : Scope) (e : Expr) (es : List Expr) → IsTableExpr e es → (expr_view e).open_expr s ≡ d.Table (item_opens s (expr_views es))
  expr_opens s _ _ (has.table_alone e es h) = ap (λ (w : ExprView). w.open_expr s) (views.expr_alone e) ∙ (operand_table_opens s e es h).1

  operand_table_opens : (s : Scope) (e : Operand) (es : List Expr) → IsTableOperand e es → ((operand_view e).open_expr s ≡ d.Table (item_opens s (expr_views es))) × ((operand_view e).whole_open s ≡ d.Table (item_opens s (expr_views es)))
  operand_table_opens s _ _ (has.table_itself e es) = (ap (λ (w : OperandView). w.open_expr s) (views.operand_table e es), ap (λ (w : OperandView). w.whole_open s) (views.operand_table e es))
  operand_table_opens s _ _ (has.table_in_parens e es h) =
      let x = expr_opens s e es h in (ap (λ (w : OperandView). w.open_expr s) (views.operand_parens e) ∙ x, ap (λ (w : OperandView). w.whole_open s) (views.operand_parens e) ∙ x)

same_many : (s : Scope) (es : List Expr) → length (item_opens s (expr_views es)) ≡ length es
same_many s [] = refl
same_many s (e ∷ es) = ap suc (same_many s es)

pub table_noted : (s : Scope) (e : Expr) (es : List Expr) (to : OccType) (parts : Option ℕ × OccType) (t : TypedExpr) → IsTableExpr e es → as_array to ≡ Some parts → placed ((expr_view e).open_expr s) to ≡ Some t
    → known_of t ≡ record { of = types.Array (count_of (length es)) parts.1; value = None }
table_noted s e es to parts t h at is =
    let xs = item_opens s (expr_views es) in
    let noted = array_known (length xs) parts.1 in
    let there : placed ((expr_view e).open_expr s) to ≡ placed_table xs parts.1 = ap (λ (z : OpenExpr). placed z to) (expr_opens s e es h) ∙ placed_as_table xs to ∙ ap (table_under xs) at in
    any_is (Notes noted) (placed_table xs parts.1) t (any_table noted (all_placed xs parts.1)) (sym there ∙ is) ∙ ap (λ (n : ℕ). array_known n parts.1) (same_many s es)
