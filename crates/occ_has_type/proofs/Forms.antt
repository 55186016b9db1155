-- Each tree that a form is given is one of that form: form by form.
use Rattle.std.proofs.Common.{◌≡◌, ◌++◌, ℕ, List, [], ◌∷◌, Option, Some, None, refl, ap, sym, subst}
use Rattle.std.specs.Prelude.{pos, ◌-ℤ◌}
use Rattle.occ_expr_operations.specs.Elements.{component_at, element_of, element_open, field_at, field_place, one_selector, place_tree, selector, selector_in, selectors, with_selectors}
use Rattle.occ_expr_operations.specs.Literals.{literal, truth}
use Rattle.occ_expr_operations.specs.OpenExprs.{applied_open, front_open, by_value, called_tree, components_placed, conversion_open, decorated_open, formal_types, items_placed, negated_open, operand_call, operation_open, pair_open, typed_call, types_of, values_placed}
use Rattle.occ_expr_operations.specs.Operations.{applied, negated, pair_operator, run_operator}
use Rattle.occ_expr_operations.specs.Parts.{ExprView, function_call, in_scope, named, named_element, only, segment_element, segment_within, subscript, table}
use Rattle.occ_expr_operations.specs.Views.{BoundsView, ElementView, NamedOperandView, OperandView, bounds_view, call_open, call_open_of, components_of, converted_call, converted_element, digits_of, element_view, expr_view, expr_views, for_of, from_for_of, from_of, item_opens, named_operand_view, named_tree, operand_opens, operand_view, operand_views, part_of, segment_tree, type_form_view, whole_element_open, whole_open_of}
use Rattle.occ_expr_operations.specs.declared.written.Opening.TheVariants as opening
use Rattle.occ_expr_operations.proofs.Views as views
use Rattle.occ_forms_expressions.proofs.Induction.{Every, Steps, every_element, every_expr}
use Rattle.occ_forms_expressions.specs.declared.tree.Bounds.{Bounds}
use Rattle.occ_forms_expressions.specs.declared.tree.Bounds.TheVariants as bv
use Rattle.occ_forms_expressions.specs.declared.tree.Element.{Element}
use Rattle.occ_forms_expressions.specs.declared.tree.Element.TheVariants as ev
use Rattle.occ_forms_expressions.specs.declared.tree.Expr.{Expr}
use Rattle.occ_forms_expressions.specs.declared.tree.Expr.TheVariants as xv
use Rattle.occ_forms_expressions.specs.declared.tree.Literal.{Literal}
use Rattle.occ_forms_expressions.specs.declared.tree.Literal.TheVariants as l
use Rattle.occ_forms_expressions.specs.declared.tree.MonadicOperator.{MonadicOperator}
use Rattle.occ_forms_expressions.specs.declared.tree.MonadicOperator.TheVariants as mo
use Rattle.occ_forms_expressions.specs.declared.tree.NamedOperand.{NamedOperand}
use Rattle.occ_forms_expressions.specs.declared.tree.NamedOperand.TheVariants as nv
use Rattle.occ_forms_expressions.specs.declared.tree.Operand.{Operand}
use Rattle.occ_forms_expressions.specs.declared.tree.Operand.TheVariants as ov
use Rattle.occ_forms_expressions.specs.declared.tree.PairOperator.{PairOperator}
use Rattle.occ_forms_expressions.specs.declared.tree.PairOperator.TheVariants as po
use Rattle.occ_forms_expressions.specs.declared.tree.RunOperator.{RunOperator}
use Rattle.occ_scope.specs.Lookup.{element}
use Rattle.occ_scope.specs.Visible.{referent, visible}
use Rattle.occ_scope.specs.declared.meaning.Meaning.{Meaning}
use Rattle.occ_scope.specs.declared.meaning.Meaning.TheVariants as meaning
use Rattle.occ_scope.specs.declared.meaning.Referent.{Referent}
use Rattle.occ_scope.specs.declared.scope.Scope.{Scope}
use Rattle.occ_typing_operands.specs.Outcomes.{decimal}
use Rattle.occ_typing_operands.specs.Settling.{base_of, int, number}
use Rattle.occ_typing_operands.specs.declared.kind.Kind.{Kind}
use Rattle.occ_typing_operands.specs.declared.kind.Kind.TheVariants as k
use Rattle.occ_typing_operands.specs.declared.kind.Known.{Known}
use Rattle.occ_typing_rules.specs.Placing.{all_placed, each_placed, placed, table_of}
use Rattle.occ_typing_rules.specs.declared.open_expr.OpenExpr.{OpenExpr}
use Rattle.occ_typing_rules.specs.declared.open_expr.OpenExpr.TheVariants as d
use Rattle.occ_typing_rules.specs.declared.expr.Selector.{Selector}
use Rattle.occ_typing_rules.specs.declared.expr.Selector.TheVariants as by
use Rattle.occ_typing_rules.specs.declared.expr.TypedActual.{TypedActual}
use Rattle.occ_typing_rules.specs.declared.expr.TypedActual.TheVariants as actual
use Rattle.occ_typing_rules.specs.declared.expr.TypedElement.{TypedElement, out-TypedElement}
use Rattle.occ_typing_rules.specs.declared.expr.TypedExpr.{TypedExpr}
use Rattle.occ_typing_rules.specs.declared.expr.TypedExpr.TheVariants as typed
use Rattle.occ_typing_tables.specs.Terms.{Judged, judged}
use Rattle.occ_types.specs.Fits.{unnamed}
use Rattle.occ_types.specs.View.{as_array, fields_in}
use Rattle.occ_types.specs.declared.constant.Monadic.{Monadic}
use Rattle.occ_types.specs.declared.constant.Monadic.TheVariants as m
use Rattle.occ_types.specs.declared.constant.Operator.TheVariants as op
use Rattle.occ_types.specs.declared.interface.Formal.{Formal}
use Rattle.occ_types.specs.declared.types.Field.{Field}
use Rattle.occ_types.specs.declared.types.OccType.{OccType}
use Rattle.occ_types.specs.declared.value.Value.TheVariants as v
use Rattle.occ_has_type.specs.Trees.{AreOfExprs, AreOfOperands, AreOfSubscripts, IsOfBounds, IsOfElement, IsOfExpr, IsOfLiteral, IsOfNamed, IsOfOperand, decimal_in, end_in, front_operator, name_alone, part, values}
use Rattle.occ_has_type.specs.Trees as of
use Rattle.occ_has_type.proofs.Gives.{AllGive, Any, any_as, any_is, EachGives, Gives, any_first, any_table, conversion_gives, front_gives, gives_faulty, gives_opened, gives_typed, literal_gives, operation_gives, shift_gives, size_gives, table_gives}
use Rattle.occ_has_type.proofs.Names.{IsNamed, element_through, name_if_alone, name_through}
use Rattle.occ_has_type.proofs.Literals.{decimal_is, decorated_tells, extreme_tells, literal_tells}

-- ---- what is shown of each form

abbrev OfBounds : Bounds → Type 0
OfBounds b = (s : Scope) (n : Option ℕ) → Any (IsOfBounds s b) ((bounds_view b).tree s n)

record ElementForm (e : Element) (v : ElementView) : Type 0 where
  name : IsNamed e (λ name. ev.Named name []) v.name
  tree : (s : Scope) → Any (IsOfElement s e) (v.tree s)
  whole : (s : Scope) → Gives (IsOfExpr s (xv.Alone (ov.Element e))) (v.whole_open s)

abbrev OfElement : Element → Type 0
OfElement e = ElementForm e (element_view e)

record ExprForm (e : Expr) (v : ExprView) : Type 0 where
  name : IsNamed e name_alone v.name
  tree : (s : Scope) → Gives (IsOfExpr s e) (v.open_expr s)

abbrev OfExpr : Expr → Type 0
OfExpr e = ExprForm e (expr_view e)

-- an operand that is an integer in decimal digits
abbrev IsDigits : Operand → Option ℕ → Type 0
IsDigits e None = Unit {0}
IsDigits e (Some i) = e ≡ ov.Literal (l.Decimal i)

record OperandForm (e : Operand) (v : OperandView) : Type 0 where
  name : IsNamed e (λ name. ov.Element (ev.Named name [])) v.name
  digits : IsDigits e v.digits
  part : (s : Scope) → Gives (IsOfOperand s e) (v.open_expr s)
  whole : (s : Scope) → Gives (IsOfExpr s (xv.Alone e)) (v.whole_open s)

abbrev OfOperand : Operand → Type 0
OfOperand e = OperandForm e (operand_view e)

abbrev NamedForm : NamedOperand → NamedOperandView → Type 0
NamedForm e v = (s : Scope) → Gives (IsOfNamed s e) (v.open_expr s)

abbrev OfNamed : NamedOperand → Type 0
OfNamed e = NamedForm e (named_operand_view e)

abbrev Anything : {X : Type 0} → X → Type 0
Anything x = Unit {0}

-- ---- what is there, under another name

gives_as : (P Q : TypedExpr → Type 0) (x : OpenExpr) → ((t : TypedExpr) → P t → Q t) → Gives P x → Gives Q x
gives_as P Q x make h = λ to. any_as P Q (placed x to) make (h to)

alone_gives : (s : Scope) (e : Operand) (x : OpenExpr) → Gives (IsOfOperand s e) x → Gives (IsOfExpr s (xv.Alone e)) x
alone_gives s e x h = gives_as (IsOfOperand s e) (IsOfExpr s (xv.Alone e)) x (λ t g. of.alone e t g) h

element_gives : (P : TypedExpr → Type 0) (Q : TypedElement → Type 0) (t : Option TypedElement) → ((t : TypedElement) → Q t → P (typed.Element t)) → Any Q t → Gives P (element_open t)
element_gives P Q None make h = gives_faulty P
element_gives P Q (Some t) make h = gives_typed P (typed.Element t) (make t h)

-- ---- lists

all_operands : (s : Scope) (es : List Operand) → Every OfOperand es → AllGive (AreOfOperands s es) (operand_opens s (operand_views es))
all_operands s [] h to = of.no_operand
all_operands s (e ∷ es) h to =
    any_first (IsOfOperand s e) (AreOfOperands s es) (AreOfOperands s (e ∷ es)) (placed ((operand_view e).open_expr s) to) (all_placed (operand_opens s (operand_views es)) to)
    (λ t ts g i. of.one_operand e es t ts g i) (h.0.part s to) (all_operands s es h.1 to)

all_exprs : (s : Scope) (es : List Expr) → Every OfExpr es → AllGive (AreOfExprs s es) (item_opens s (expr_views es))
all_exprs s [] h to = of.no_expr
all_exprs s (e ∷ es) h to =
    any_first (IsOfExpr s e) (AreOfExprs s es) (AreOfExprs s (e ∷ es)) (placed ((expr_view e).open_expr s) to) (all_placed (item_opens s (expr_views es)) to)
    (λ t ts g i. of.one_expr e es t ts g i) (h.0.tree s to) (all_exprs s es h.1 to)

each_expr : (s : Scope) (es : List Expr) → Every OfExpr es → EachGives (AreOfExprs s es) (item_opens s (expr_views es))
each_expr s [] h [] = of.no_expr
each_expr s [] h (to ∷ types) = tt
each_expr s (e ∷ es) h [] = tt
each_expr s (e ∷ es) h (to ∷ types) =
    any_first (IsOfExpr s e) (AreOfExprs s es) (AreOfExprs s (e ∷ es)) (placed ((expr_view e).open_expr s) to) (each_placed (item_opens s (expr_views es)) types)
    (λ t ts g i. of.one_expr e es t ts g i) (h.0.tree s to) (each_expr s es h.1 types)

-- one tree, and two
abbrev One : (TypedExpr → Type 0) → List TypedExpr → Type 0
One P ts = (t : TypedExpr) × (ts ≡ t ∷ []) × P t

abbrev Two : (TypedExpr → Type 0) → (TypedExpr → Type 0) → List TypedExpr → Type 0
Two P Q ts = (t : TypedExpr) × (u : TypedExpr) × (ts ≡ t ∷ u ∷ []) × P t × Q u

one_gives : (P : TypedExpr → Type 0) (x : OpenExpr) → Gives P x → AllGive (One P) (x ∷ [])
one_gives P x h to = any_first P (λ ts. ts ≡ []) (One P) (placed x to) (Some []) (λ t ts g is. (t, ap (λ (us : List TypedExpr). t ∷ us) is, g)) (h to) refl

two_give : (P Q : TypedExpr → Type 0) (x y : OpenExpr) → Gives P x → Gives Q y → AllGive (Two P Q) (x ∷ y ∷ [])
two_give P Q x y h g to =
    any_first P (One Q) (Two P Q) (placed x to) (all_placed (y ∷ []) to) (λ t ts p q. (t, q.0, ap (λ (us : List TypedExpr). t ∷ us) q.1, p, q.2)) (h to) (one_gives Q y g to)

-- ---- elements

made_element : (P : TypedElement → Type 0) (kind : Kind) (name : List ℕ) (r : Option Referent) (ss : Option (List Selector))
    → ((x : Known) (q : Referent) (zs : List Selector) → r ≡ Some q → ss ≡ Some zs → P (part x name q zs)) → Any P (element_of kind name r ss)
unfolding element_of
made_element P k.Faulty name r ss make = tt
made_element P (k.Untyped f) name r ss make = tt
made_element P (k.Known x) name None ss make = tt
made_element P (k.Known x) name (Some q) None make = tt
made_element P (k.Known x) name (Some q) (Some zs) make = make x q zs refl refl

-- a selector that stands for the subscript before those that follow
abbrev Selects : Scope → Expr → Selector → Type 0
Selects s e x = (es : List Expr) (following : List Selector) → AreOfSubscripts s es following → AreOfSubscripts s (e ∷ es) (x ∷ following)

component_selects : (s : Scope) (e : Expr) (t : Option TypedExpr) → Any (IsOfExpr s e) t → Any (Selects s e) (component_at t)
component_selects s e None h = tt
component_selects s e (Some t) h = λ es following g. of.component e es t following h g

field_selects : (s : Scope) (e : Expr) (name : List ℕ) (place : Option ℕ) → e ≡ name_alone name → Any (Selects s e) (field_at name place)
field_selects s e name None is = tt
field_selects s e name (Some place) is = λ es following g.
    subst (λ (z : Expr). AreOfSubscripts s (z ∷ es) (by.Field place name ∷ following)) (sym is) (of.field name place es following g)

in_selects : (s : Scope) (e : Expr) (fields : Option (List Field)) (name : Option (List ℕ)) → IsNamed e name_alone name → ((s : Scope) → Gives (IsOfExpr s e) ((expr_view e).open_expr s))
    → Any (Selects s e) (selector_in s (expr_view e) fields name)
in_selects s e None name is h = component_selects s e (place_tree s (expr_view e)) (h s int)
in_selects s e (Some fields) None is h = component_selects s e (place_tree s (expr_view e)) (h s int)
in_selects s e (Some fields) (Some name) is h = field_selects s e name (field_place name fields) is

one_selects : (s : Scope) (e : Expr) (kind : Kind) → OfExpr e → Any (Selects s e) (selector s (expr_view e) kind)
unfolding selector
one_selects s e k.Faulty h = tt
one_selects s e (k.Untyped f) h = tt
one_selects s e (k.Known x) h = in_selects s e (fields_in (unnamed x.of)) (expr_view e).name h.name h.tree

with_one : (P : Selector → Type 0) (Q R : List Selector → Type 0) (x : Option Selector) (xs : Option (List Selector))
    → ((x : Selector) (xs : List Selector) → P x → Q xs → R (x ∷ xs)) → Any P x → Any Q xs → Any R (with_selectors (one_selector x) xs)
with_one P Q R None xs make h g = tt
with_one P Q R (Some x) None make h g = tt
with_one P Q R (Some x) (Some xs) make h g = make x xs h g

all_select : (s : Scope) (es : List Expr) (kind : Kind) → Every OfExpr es → Any (AreOfSubscripts s es) (selectors s (expr_views es) kind)
all_select s [] kind h = of.no_subscript
all_select s (e ∷ es) kind h =
    with_one (Selects s e) (AreOfSubscripts s es) (AreOfSubscripts s (e ∷ es)) (selector s (expr_view e) kind) (selectors s (expr_views es) (subscript s (expr_view e) kind).kind)
    (λ x xs g i. g es xs i) (one_selects s e kind h.0) (all_select s es (subscript s (expr_view e) kind).kind h.1)

named_is : (s : Scope) (name : List ℕ) (es : List Expr) → Every OfExpr es → Any (IsOfElement s (ev.Named name es)) (named_tree s name (expr_views es))
unfolding named_tree
named_is s name es h =
    let kind = (named (element name (visible s name))).kind in
    made_element (IsOfElement s (ev.Named name es)) (named_element s name (expr_views es)).kind name (referent s name) (selectors s (expr_views es) kind)
    (λ x q zs is are. of.named name es x q zs is (any_is (AreOfSubscripts s es) (selectors s (expr_views es) kind) zs (all_select s es kind h) are))

there_element : (P : TypedElement → Type 0) (kind : Kind) (name : List ℕ) (r : Referent) (zs : List Selector) → ((x : Known) → P (part x name r zs)) → Any P (element_of kind name (Some r) (Some zs))
unfolding element_of
there_element P k.Faulty name r zs make = tt
there_element P (k.Untyped f) name r zs make = tt
there_element P (k.Known x) name r zs make = make x

none_element : (P : TypedElement → Type 0) (kind : Kind) (name : List ℕ) (r : Option Referent) → Any P (element_of kind name r None)
none_element P kind name r = made_element P kind name r None (λ x q zs is are. absurd cc)

part_is : (s : Scope) (e : Element) (b : Bounds) (es : List Expr) (kind : Kind) (t : Option TypedElement) (x : Option Selector) (following : Option (List Selector))
    → Any (IsOfElement s e) t → Any (IsOfBounds s b) x → Any (AreOfSubscripts s es) following → Any (IsOfElement s (ev.Segment e b es)) (part_of kind t x following)
unfolding part_of
part_is s e b es kind None x following h g i = tt
part_is s e b es kind (Some t) None following h g i = none_element (IsOfElement s (ev.Segment e b es)) kind (out-TypedElement t).name (Some (out-TypedElement t).referent)
part_is s e b es kind (Some t) (Some x) None h g i = none_element (IsOfElement s (ev.Segment e b es)) kind (out-TypedElement t).name (Some (out-TypedElement t).referent)
part_is s e b es kind (Some t) (Some x) (Some zs) h g i =
    there_element (IsOfElement s (ev.Segment e b es)) kind (out-TypedElement t).name (out-TypedElement t).referent (((out-TypedElement t).selectors ++ x ∷ []) ++ zs)
    (λ y. of.segment e b es y t x zs h g i)

segment_is : (s : Scope) (e : Element) (b : Bounds) (es : List Expr) → OfElement e → OfBounds b → Every OfExpr es → Any (IsOfElement s (ev.Segment e b es)) (segment_tree s (element_view e) (bounds_view b) (expr_views es))
segment_is s e b es h g i =
    let whole = (element_view e).reported s in
    part_is s e b es (segment_element s whole ((bounds_view b).said s) (expr_views es)).kind ((element_view e).tree s) ((bounds_view b).tree s (components_of whole.kind))
    (selectors s (expr_views es) (segment_within ((bounds_view b).said s) whole.kind).kind)
    (h.tree s) (g s (components_of whole.kind)) (all_select s es (segment_within ((bounds_view b).said s) whole.kind).kind i)

as_operand : (s : Scope) (e : Element) (t : Option TypedElement) → Any (IsOfElement s e) t → Gives (IsOfExpr s (xv.Alone (ov.Element e))) (element_open t)
as_operand s e t h = element_gives (IsOfExpr s (xv.Alone (ov.Element e))) (IsOfElement s e) t (λ u g. of.alone (ov.Element e) (typed.Element u) (of.element e u g)) h

-- ---- `n [e]`, of a data type

table_of_one : (s : Scope) (name : List ℕ) (e : Expr) (to : Option OccType) (operand : Judged) → visible s name ≡ Some (meaning.Type to) → OfExpr e
    → Gives (IsOfExpr s (xv.Alone (ov.Element (ev.Named name (e ∷ []))))) (conversion_open to operand (d.Table ((expr_view e).open_expr s ∷ [])))
table_of_one s name e to operand is h =
    let P = λ (t : TypedExpr). (j : Known) × (u : TypedExpr) × (t ≡ typed.Table j (u ∷ [])) × IsOfExpr s e u in
    let whole = xv.Alone (ov.Element (ev.Named name (e ∷ []))) in
    conversion_gives (IsOfExpr s whole) P to operand (d.Table ((expr_view e).open_expr s ∷ []))
    (λ y t g. subst (λ (z : TypedExpr). IsOfExpr s whole (typed.Converted y z)) (sym g.2) (of.table_converted name e to y g.0 g.1 is g.3))
    (table_gives P (One (IsOfExpr s e)) ((expr_view e).open_expr s ∷ []) (λ y ts g. (y, g.0, ap (typed.Table y) g.1, g.2)) (one_gives (IsOfExpr s e) ((expr_view e).open_expr s) (h.tree s)))

type_is : (s : Scope) (name : List ℕ) (es : List Expr) (to : Option OccType) → visible s name ≡ Some (meaning.Type to) → Every OfExpr es → (as_element : OpenExpr)
    → Gives (IsOfExpr s (xv.Alone (ov.Element (ev.Named name es)))) as_element
    → Gives (IsOfExpr s (xv.Alone (ov.Element (ev.Named name es)))) (converted_element s to (only (expr_views es)) as_element)
type_is s name [] to is h as_element g = g
type_is s name (e ∷ []) to is h as_element g = table_of_one s name e to (judged (table ((expr_view e).said s ∷ [])).term) is h.0
type_is s name (e ∷ f ∷ es) to is h as_element g = g

whole_is : (s : Scope) (name : List ℕ) (es : List Expr) (found : Option Meaning) → visible s name ≡ found → Every OfExpr es → (as_element : OpenExpr)
    → Gives (IsOfExpr s (xv.Alone (ov.Element (ev.Named name es)))) as_element
    → Gives (IsOfExpr s (xv.Alone (ov.Element (ev.Named name es)))) (whole_open_of s (expr_views es) found as_element)
whole_is s name es None is h as_element g = g
whole_is s name es (Some meaning.Faulty) is h as_element g = g
whole_is s name es (Some (meaning.Type to)) is h as_element g = type_is s name es to is h as_element g
whole_is s name es (Some (meaning.Protocol c)) is h as_element g = g
whole_is s name es (Some (meaning.Procedure fs)) is h as_element g = g
whole_is s name es (Some (meaning.Function fs results)) is h as_element g = g
whole_is s name es (Some (meaning.Element w)) is h as_element g = g

whole_element_is : (s : Scope) (name : List ℕ) (es : List Expr) → Every OfExpr es → Gives (IsOfExpr s (xv.Alone (ov.Element (ev.Named name es)))) (whole_element_open s name (expr_views es))
unfolding whole_element_open
whole_element_is s name es h =
    whole_is s name es (visible s name) refl h (element_open (named_tree s name (expr_views es))) (as_operand s (ev.Named name es) (named_tree s name (expr_views es)) (named_is s name es h))

-- ---- bounds

from_is : (s : Scope) (e : Expr) (n : Option ℕ) (t : Option TypedExpr) → Any (IsOfExpr s e) t → Any (IsOfBounds s (bv.From e)) (from_of n t)
from_is s e n None h = tt
from_is s e n (Some t) h = of.from e n t h

for_is : (s : Scope) (e : Expr) (n : Option ℕ) (t : Option TypedExpr) → Any (IsOfExpr s e) t → Any (IsOfBounds s (bv.For e)) (for_of n t)
for_is s e n None h = tt
for_is s e n (Some t) h = of.so_many e n t h

from_for_is : (s : Scope) (e f : Expr) (n : Option ℕ) (t u : Option TypedExpr) → Any (IsOfExpr s e) t → Any (IsOfExpr s f) u → Any (IsOfBounds s (bv.FromFor e f)) (from_for_of n t u)
from_for_is s e f n None u h g = tt
from_for_is s e f n (Some t) None h g = tt
from_for_is s e f n (Some t) (Some u) h g = of.from_so_many e f n t u h g

-- ---- operators

run_is : (s : Scope) (op : RunOperator) (a b : Operand) (es : List Operand) (whole : Kind) → Every OfOperand (a ∷ b ∷ es)
    → Gives (IsOfExpr s (xv.Run op a b es)) (operation_open whole (run_operator op) (operand_opens s (operand_views (a ∷ b ∷ es))))
run_is s op a b es whole h =
    operation_gives (IsOfExpr s (xv.Run op a b es)) (AreOfOperands s (a ∷ b ∷ es)) (run_operator op) (operand_opens s (operand_views (a ∷ b ∷ es))) whole
    (λ x ts g. of.run op a b es x ts g) (all_operands s (a ∷ b ∷ es) h)

pair_is : (s : Scope) (a b : Operand) (whole : Kind) (operator : PairOperator) → OfOperand a → OfOperand b
    → Gives (IsOfExpr s (xv.Pair a operator b)) (pair_open whole operator ((operand_view a).open_expr s) ((operand_view b).open_expr s))
unfolding pair_open
pair_is s a b whole po.ShiftLeft h g =
    shift_gives (IsOfExpr s (xv.Pair a po.ShiftLeft b)) (IsOfOperand s a) (IsOfOperand s b) op.ShiftLeft ((operand_view a).open_expr s) ((operand_view b).open_expr s) whole
    (λ y t u i j. of.pair a po.ShiftLeft b y t u i j) (h.part s) (g.part s)
pair_is s a b whole po.ShiftRight h g =
    shift_gives (IsOfExpr s (xv.Pair a po.ShiftRight b)) (IsOfOperand s a) (IsOfOperand s b) op.ShiftRight ((operand_view a).open_expr s) ((operand_view b).open_expr s) whole
    (λ y t u i j. of.pair a po.ShiftRight b y t u i j) (h.part s) (g.part s)
pair_is s a b whole operator h g =
    operation_gives (IsOfExpr s (xv.Pair a operator b)) (Two (IsOfOperand s a) (IsOfOperand s b)) (pair_operator operator) ((operand_view a).open_expr s ∷ (operand_view b).open_expr s ∷ []) whole
    (λ y ts i. subst (λ (z : List TypedExpr). IsOfExpr s (xv.Pair a operator b) (typed.Operation y (pair_operator operator) z)) (sym i.2) (of.pair a operator b y i.0 i.1 i.3 i.4))
    (two_give (IsOfOperand s a) (IsOfOperand s b) ((operand_view a).open_expr s) ((operand_view b).open_expr s) (h.part s) (g.part s))

front_is : (s : Scope) (e : Operand) (operator : MonadicOperator) (means : Monadic) (whole : Kind) (x : OpenExpr) → front_operator operator ≡ Some means → Gives (IsOfOperand s e) x
    → Gives (IsOfExpr s (xv.Applied operator e)) (front_open whole means x)
front_is s e operator means whole x is h = front_gives (IsOfExpr s (xv.Applied operator e)) (IsOfOperand s e) means x whole (λ y t g. of.front operator means e y t is g) h

negated_is : (s : Scope) (e : Operand) (digits : Option ℕ) (j : Judged) (x : OpenExpr) → IsDigits e digits → Gives (IsOfOperand s e) x
    → Gives (IsOfExpr s (xv.Applied mo.Negate e)) (negated_open (negated digits j).kind digits x)
negated_is s e None j x is h = front_is s e mo.Negate m.Negate (negated None j).kind x refl h
negated_is s e (Some n) j x is h =
    literal_gives (IsOfExpr s (xv.Applied mo.Negate e)) (λ (y : Known). y.value ≡ decimal_in (number (base_of y.of)) (pos 0 -ℤ pos n)) (k.Untyped (decimal (pos 0 -ℤ pos n)))
    (λ y g. subst (λ (z : Operand). IsOfExpr s (xv.Applied mo.Negate z) (typed.Literal y)) (sym is) (of.negative n y g))
    (λ to. decimal_is (pos 0 -ℤ pos n) (base_of to))

applied_is : (s : Scope) (e : Operand) (operator : MonadicOperator) (digits : Option ℕ) (j : Judged) (x : OpenExpr) → IsDigits e digits → Gives (IsOfOperand s e) x
    → Gives (IsOfExpr s (xv.Applied operator e)) (applied_open (applied operator digits j).kind operator digits j x)
unfolding applied_open applied
applied_is s e mo.Negate digits j x is h = negated_is s e digits j x is h
applied_is s e mo.Minus digits j x is h = front_is s e mo.Minus m.Minus (applied mo.Minus digits j).kind x refl h
applied_is s e mo.BitNot digits j x is h = front_is s e mo.BitNot m.BitNot (applied mo.BitNot digits j).kind x refl h
applied_is s e mo.BitNotWord digits j x is h = front_is s e mo.BitNotWord m.BitNot (applied mo.BitNotWord digits j).kind x refl h
applied_is s e mo.Not digits j x is h = front_is s e mo.Not m.Not (applied mo.Not digits j).kind x refl h
applied_is s e mo.Size digits j x is h =
    size_gives (IsOfExpr s (xv.Applied mo.Size e)) (IsOfOperand s e) j.alone.kind x (applied mo.Size digits j).kind (λ y t g. of.size e y t g) h

-- ---- tables

items_give : (Q : List TypedExpr → Type 0) (xs : List OpenExpr) (to : OccType) (parts : Option (Option ℕ × OccType)) (fields : Option (List Field)) → AllGive Q xs → EachGives Q xs
    → fields_in (unnamed to) ≡ fields → Any Q (components_placed xs to parts)
items_give Q xs to (Some parts) fields h g is = h parts.1
items_give Q xs to None fields h g is = subst (λ (z : Option (List Field)). Any Q (values_placed xs z)) (sym is) (values fields) where
  values : (z : Option (List Field)) → Any Q (values_placed xs z)
  values None = tt
  values (Some fs) = g (types_of fs)

decorated_give : (P : TypedExpr → Type 0) (Q : List TypedExpr → Type 0) (xs : List OpenExpr) (kind : Kind) → ((y : Known) (ts : List TypedExpr) → Q ts → P (typed.Table y ts)) → AllGive Q xs → EachGives Q xs → Gives P (decorated_open kind xs)
unfolding decorated_open
decorated_give P Q xs k.Faulty make h g = gives_faulty P
decorated_give P Q xs (k.Untyped f) make h g = gives_faulty P
decorated_give P Q xs (k.Known x) make h g =
    gives_opened P (table_of x (items_placed xs x.of)) (any_table P Q x (items_placed xs x.of) (make x) (items_give Q xs x.of (as_array (unnamed x.of)) (fields_in (unnamed x.of)) h g refl))

-- ---- calls

same_values : (ts : List TypedExpr) → by_value ts ≡ values ts
same_values [] = refl
same_values (t ∷ ts) = ap (λ (xs : List TypedActual). actual.Value t ∷ xs) (same_values ts)

typed_call_is : (P : TypedExpr → Type 0) (Q : List TypedExpr → Type 0) (x : Known) (r : Option Referent) (ts : Option (List TypedExpr))
    → ((q : Referent) (us : List TypedExpr) → r ≡ Some q → Q us → P (typed.Call x q (values us))) → Any Q ts → Any P (typed_call x r ts)
typed_call_is P Q x None ts make h = tt
typed_call_is P Q x (Some r) None make h = tt
typed_call_is P Q x (Some r) (Some us) make h = subst (λ (z : List TypedActual). P (typed.Call x r z)) (sym (same_values us)) (make r us refl h)

called_is : (P : TypedExpr → Type 0) (Q : List TypedExpr → Type 0) (to : OccType) (r : Option Referent) (formals : List Formal) (xs : List OpenExpr)
    → ((x : Known) (q : Referent) (us : List TypedExpr) → r ≡ Some q → Q us → P (typed.Call x q (values us))) → EachGives Q xs → Any P (called_tree to r formals xs)
unfolding called_tree
called_is P Q to r formals xs make h = typed_call_is P Q (record { of = to; value = None }) r (each_placed xs (formal_types formals)) (make (record { of = to; value = None })) (h (formal_types formals))

function_gives : (P : TypedExpr → Type 0) (Q : List TypedExpr → Type 0) (whole : Kind) (r : Option Referent) (formals : List Formal) (xs : List OpenExpr)
    → ((x : Known) (q : Referent) (us : List TypedExpr) → r ≡ Some q → Q us → P (typed.Call x q (values us))) → EachGives Q xs → Gives P (operand_call whole r formals xs)
function_gives P Q k.Faulty r formals xs make h = gives_faulty P
function_gives P Q (k.Untyped f) r formals xs make h = gives_faulty P
function_gives P Q (k.Known x) r formals xs make h = gives_opened P (called_tree x.of r formals xs) (called_is P Q x.of r formals xs make h)

-- what a call of the name can be
record Calls (s : Scope) (name : List ℕ) (es : List Expr) (P : TypedExpr → Type 0) : Type 0 where
  function : (x : Known) (r : Referent) (formals : List Formal) (results : List OccType) (ts : List TypedExpr)
      → visible s name ≡ Some (meaning.Function formals results) → referent s name ≡ Some r → AreOfExprs s es ts → P (typed.Call x r (values ts))
  conversion : (e : Expr) (to : Option OccType) (x : Known) (t : TypedExpr) → es ≡ e ∷ [] → visible s name ≡ Some (meaning.Type to) → IsOfExpr s e t → P (typed.Converted x t)

type_call : (s : Scope) (name : List ℕ) (es : List Expr) (P : TypedExpr → Type 0) (to : Option OccType) → Calls s name es P → visible s name ≡ Some (meaning.Type to) → Every OfExpr es
    → Gives P (converted_call s to (only (expr_views es)))
type_call s name [] P to make is h = gives_faulty P
type_call s name (e ∷ []) P to make is h =
    conversion_gives P (IsOfExpr s e) to (judged ((expr_view e).said s).term) ((expr_view e).open_expr s) (λ y t g. make.conversion e to y t refl is g) (h.0.tree s)
type_call s name (e ∷ f ∷ es) P to make is h = gives_faulty P

call_of_is : (s : Scope) (name : List ℕ) (es : List Expr) (P : TypedExpr → Type 0) (found : Option Meaning) → Calls s name es P → visible s name ≡ found → Every OfExpr es
    → Gives P (call_open_of s name (expr_views es) found)
call_of_is s name es P None make is h = gives_faulty P
call_of_is s name es P (Some meaning.Faulty) make is h = gives_faulty P
call_of_is s name es P (Some (meaning.Type to)) make is h = type_call s name es P to make is h
call_of_is s name es P (Some (meaning.Protocol c)) make is h = gives_faulty P
call_of_is s name es P (Some (meaning.Procedure fs)) make is h = gives_faulty P
call_of_is s name es P (Some (meaning.Function formals results)) make is h =
    function_gives P (AreOfExprs s es) (function_call formals results (in_scope s (expr_views es))).kind (referent s name) formals (item_opens s (expr_views es))
    (λ x r ts at g. make.function x r formals results ts is at g) (each_expr s es h)
call_of_is s name es P (Some (meaning.Element w)) make is h = gives_faulty P

call_is : (s : Scope) (name : List ℕ) (es : List Expr) (P : TypedExpr → Type 0) → Calls s name es P → Every OfExpr es → Gives P (call_open s name (expr_views es))
unfolding call_open
call_is s name es P make h = call_of_is s name es P (visible s name) make refl h

operand_calls : (s : Scope) (name : List ℕ) (es : List Expr) → Calls s name es (IsOfOperand s (ov.Call name es))
operand_calls s name es = record {
  function = λ x r formals results ts is at g. of.call name es x r formals results ts is at g;
  conversion = λ e to x t are is g. subst (λ (z : List Expr). IsOfOperand s (ov.Call name z) (typed.Converted x t)) (sym are) (of.call_converted name e to x t is g);
}

named_calls : (s : Scope) (name : List ℕ) (es : List Expr) → Calls s name es (IsOfNamed s (nv.Call name es))
named_calls s name es = record {
  function = λ x r formals results ts is at g. of.named_call name es x r formals results ts is at g;
  conversion = λ e to x t are is g. subst (λ (z : List Expr). IsOfNamed s (nv.Call name z) (typed.Converted x t)) (sym are) (of.named_call_converted name e to x t is g);
}

-- ---- an operand that is the same as a whole expression

either : (e : Operand) (v : OperandView) → v.name ≡ None → IsDigits e v.digits → ((s : Scope) → v.whole_open s ≡ v.open_expr s)
    → ((s : Scope) → Gives (IsOfOperand s e) (v.open_expr s)) → OperandForm e v
either e v is at same h = record {
  name = subst (IsNamed e (λ name. ov.Element (ev.Named name []))) (sym is) tt;
  digits = at;
  part = h;
  whole = λ s. subst (Gives (IsOfExpr s (xv.Alone e))) (sym (same s)) (alone_gives s e (v.open_expr s) (h s));
}

digits_is : (lit : Literal) → IsDigits (ov.Literal lit) (digits_of lit)
digits_is (l.Decimal n) = refl
digits_is (l.Hexadecimal n) = tt
digits_is (l.Character b) = tt
digits_is (l.String bytes) = tt

-- ---- all forms

steps : Steps OfBounds Anything Anything OfElement OfExpr OfNamed OfOperand Anything
steps = record {
  bounds_from = λ e h s n. subst (λ (v : BoundsView). Any (IsOfBounds s (bv.From e)) (v.tree s n)) (sym (views.bounds_from e)) (from_is s e n (place_tree s (expr_view e)) (h.tree s int));
  bounds_for = λ e h s n. subst (λ (v : BoundsView). Any (IsOfBounds s (bv.For e)) (v.tree s n)) (sym (views.bounds_for e)) (for_is s e n (place_tree s (expr_view e)) (h.tree s int));
  bounds_from_for = λ e f h g s n. subst (λ (v : BoundsView). Any (IsOfBounds s (bv.FromFor e f)) (v.tree s n)) (sym (views.bounds_from_for e f))
      (from_for_is s e f n (place_tree s (expr_view e)) (place_tree s (expr_view f)) (h.tree s int) (g.tree s int));
  builtin_primitive = λ w. tt;
  builtin_timer = tt;
  builtin_any_channel = λ w. tt;
  builtin_channel = λ w ds b h. tt;
  builtin_counted = λ w ds b es other h g. tt;
  dimension_open = tt;
  dimension_sized = λ e h. tt;
  element_named = λ n es h. subst (ElementForm (ev.Named n es)) (sym (views.element_named n es))
      (record { name = name_if_alone n es; tree = λ s. named_is s n es h; whole = λ s. whole_element_is s n es h });
  element_segment = λ e b es h g i. subst (ElementForm (ev.Segment e b es)) (sym (views.element_segment e b es))
      (record {
        name = tt;
        tree = λ s. segment_is s e b es h g i;
        whole = λ s. as_operand s (ev.Segment e b es) (segment_tree s (element_view e) (bounds_view b) (expr_views es)) (segment_is s e b es h g i);
      });
  expr_alone = λ o h. subst (ExprForm (xv.Alone o)) (sym (views.expr_alone o)) (record { name = name_through o (operand_view o).name h.name; tree = h.whole });
  expr_run = λ op a b os h g i. subst (ExprForm (xv.Run op a b os)) (sym (views.expr_run op a b os)) (record { name = tt; tree = λ s. run_is s op a b os _ (h, (g, i)) });
  expr_pair = λ a op b h g. subst (ExprForm (xv.Pair a op b)) (sym (views.expr_pair a op b)) (record { name = tt; tree = λ s. pair_is s a b _ op h g });
  expr_applied = λ op o h. subst (ExprForm (xv.Applied op o)) (sym (views.expr_applied op o))
      (record { name = tt; tree = λ s. applied_is s o op (operand_view o).digits (judged ((operand_view o).said s).term) ((operand_view o).open_expr s) h.digits (h.part s) });
  expr_converted = λ ds b o h g i. subst (ExprForm (xv.Converted ds b o)) (sym (views.expr_converted ds b o))
      (record { name = tt; tree = λ s. conversion_gives (IsOfExpr s (xv.Converted ds b o)) (IsOfOperand s o) _ _ ((operand_view o).open_expr s) (λ y t j. of.converted ds b o y t j) (i.part s) });
  expr_array_converted = λ d ds n o h g i. subst (ExprForm (xv.ArrayConverted d ds n o)) (sym (views.expr_array_converted d ds n o))
      (record { name = tt; tree = λ s. conversion_gives (IsOfExpr s (xv.ArrayConverted d ds n o)) (IsOfOperand s o) _ _ ((operand_view o).open_expr s) (λ y t j. of.array_converted d ds n o y t j) (i.part s) });
  expr_named = λ n o h. subst (ExprForm (xv.Named n o)) (sym (views.expr_named n o))
      (record { name = tt; tree = λ s. conversion_gives (IsOfExpr s (xv.Named n o)) (IsOfNamed s o) _ _ ((named_operand_view o).open_expr s) (λ y t j. of.named_converted n o y t j) (h s) });
  expr_most = λ e ty h. subst (ExprForm (xv.Most e ty)) (sym (views.expr_most e ty))
      (record { name = tt; tree = λ s. literal_gives (IsOfExpr s (xv.Most e ty)) (λ (y : Known). y.value ≡ end_in e (number (base_of y.of))) _ (λ y g. of.most e ty y g) (extreme_tells e (type_form_view ty opening.Refused s).found) });
  named_operand_element = λ e h. subst (NamedForm (nv.Element e)) (sym (views.named_operand_element e))
      (λ s. element_gives (IsOfNamed s (nv.Element e)) (IsOfElement s e) ((element_view e).tree s) (λ t g. of.named_element e t g) (h.tree s));
  named_operand_literal = λ lit. subst (NamedForm (nv.Literal lit)) (sym (views.named_operand_literal lit))
      (λ s. literal_gives (IsOfNamed s (nv.Literal lit)) (IsOfLiteral lit) (literal lit).kind (λ y g. of.named_literal lit y g) (literal_tells lit));
  named_operand_decorated = λ lit ty h. subst (NamedForm (nv.Decorated lit ty)) (sym (views.named_operand_decorated lit ty))
      (λ s. literal_gives (IsOfNamed s (nv.Decorated lit ty)) (IsOfLiteral lit) _ (λ y g. of.named_decorated lit ty y g) (decorated_tells (type_form_view ty opening.Refused s).found lit));
  named_operand_truth = λ b. subst (NamedForm (nv.Truth b)) (sym (views.named_operand_truth b))
      (λ s. literal_gives (IsOfNamed s (nv.Truth b)) (λ (y : Known). y.value ≡ Some (v.Bool b)) (truth b).kind (λ y g. of.named_truth b y g) refl);
  named_operand_table = λ e f es h g i. subst (NamedForm (nv.Table e f es)) (sym (views.named_operand_table e f es))
      (λ s. table_gives (IsOfNamed s (nv.Table e f es)) (AreOfExprs s (e ∷ f ∷ es)) (item_opens s (expr_views (e ∷ f ∷ es))) (λ y ts j. of.named_table e f es y ts j) (all_exprs s (e ∷ f ∷ es) (h, (g, i))));
  named_operand_decorated_table = λ e es ty h g i. subst (NamedForm (nv.DecoratedTable e es ty)) (sym (views.named_operand_decorated_table e es ty))
      (λ s. decorated_give (IsOfNamed s (nv.DecoratedTable e es ty)) (AreOfExprs s (e ∷ es)) (item_opens s (expr_views (e ∷ es))) _ (λ y ts j. of.named_decorated_table e es ty y ts j) (all_exprs s (e ∷ es) (h, g)) (each_expr s (e ∷ es) (h, g)));
  named_operand_call = λ n es h. subst (NamedForm (nv.Call n es)) (sym (views.named_operand_call n es)) (λ s. call_is s n es (IsOfNamed s (nv.Call n es)) (named_calls s n es) h);
  operand_element = λ e h. subst (OperandForm (ov.Element e)) (sym (views.operand_element e))
      (record {
        name = element_through e (element_view e).name h.name;
        digits = tt;
        part = λ s. element_gives (IsOfOperand s (ov.Element e)) (IsOfElement s e) ((element_view e).tree s) (λ t g. of.element e t g) (h.tree s);
        whole = h.whole;
      });
  operand_literal = λ lit. subst (OperandForm (ov.Literal lit)) (sym (views.operand_literal lit))
      (either (ov.Literal lit) _ refl (digits_is lit) (λ s. refl) (λ s. literal_gives (IsOfOperand s (ov.Literal lit)) (IsOfLiteral lit) (literal lit).kind (λ y g. of.literal lit y g) (literal_tells lit)));
  operand_decorated = λ lit ty h. subst (OperandForm (ov.Decorated lit ty)) (sym (views.operand_decorated lit ty))
      (either (ov.Decorated lit ty) _ refl tt (λ s. refl)
      (λ s. literal_gives (IsOfOperand s (ov.Decorated lit ty)) (IsOfLiteral lit) _ (λ y g. of.decorated lit ty y g) (decorated_tells (type_form_view ty opening.Refused s).found lit)));
  operand_truth = λ b. subst (OperandForm (ov.Truth b)) (sym (views.operand_truth b))
      (either (ov.Truth b) _ refl tt (λ s. refl) (λ s. literal_gives (IsOfOperand s (ov.Truth b)) (λ (y : Known). y.value ≡ Some (v.Bool b)) (truth b).kind (λ y g. of.truth b y g) refl));
  operand_parens = λ e h. subst (OperandForm (ov.Parens e)) (sym (views.operand_parens e))
      (either (ov.Parens e) _ refl tt (λ s. refl) (λ s. gives_as (IsOfExpr s e) (IsOfOperand s (ov.Parens e)) ((expr_view e).open_expr s) (λ t g. of.parens e t g) (h.tree s)));
  operand_table = λ e es h g. subst (OperandForm (ov.Table e es)) (sym (views.operand_table e es))
      (either (ov.Table e es) _ refl tt (λ s. refl)
      (λ s. table_gives (IsOfOperand s (ov.Table e es)) (AreOfExprs s (e ∷ es)) (item_opens s (expr_views (e ∷ es))) (λ y ts j. of.table e es y ts j) (all_exprs s (e ∷ es) (h, g))));
  operand_decorated_table = λ e es ty h g i. subst (OperandForm (ov.DecoratedTable e es ty)) (sym (views.operand_decorated_table e es ty))
      (either (ov.DecoratedTable e es ty) _ refl tt (λ s. refl)
      (λ s. decorated_give (IsOfOperand s (ov.DecoratedTable e es ty)) (AreOfExprs s (e ∷ es)) (item_opens s (expr_views (e ∷ es))) _ (λ y ts j. of.decorated_table e es ty y ts j) (all_exprs s (e ∷ es) (h, g)) (each_expr s (e ∷ es) (h, g))));
  operand_call = λ n es h. subst (OperandForm (ov.Call n es)) (sym (views.operand_call n es))
      (either (ov.Call n es) _ refl tt (λ s. refl) (λ s. call_is s n es (IsOfOperand s (ov.Call n es)) (operand_calls s n es) h));
  type_form_named = λ ds n h. tt;
  type_form_builtin = λ ds b h g. tt;
}

-- each tree of an expression, whatever type is wanted of it, is one of its form
pub expr_tree_is : (s : Scope) (e : Expr) (to : OccType) (t : TypedExpr) → placed ((expr_view e).open_expr s) to ≡ Some t → IsOfExpr s e t
expr_tree_is s e to t is = any_is (IsOfExpr s e) (placed ((expr_view e).open_expr s) to) t ((every_expr steps e).tree s to) is

pub element_tree_is : (s : Scope) (e : Element) (t : TypedElement) → (element_view e).tree s ≡ Some t → IsOfElement s e t
element_tree_is s e t is = any_is (IsOfElement s e) ((element_view e).tree s) t ((every_element steps e).tree s) is
