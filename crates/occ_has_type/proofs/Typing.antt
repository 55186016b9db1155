-- What is known of each form, the relation says of it: form by form.
use Rattle.std.proofs.Common.{◌≡◌, ◌∙◌, ◌&&◌, inl, inr, ℕ, Bool, true, false, List, [], ◌∷◌, Option, Some, None, refl, ap, sym, subst}
use Rattle.std.specs.Prelude.{pos, ◌-ℤ◌, not}
use Rattle.occ_expr_operations.specs.Literals.{decorated_literal, literal}
use Rattle.occ_expr_operations.specs.Operations.{another_has_fault, applied, converted, each_among, extreme_of, in_front, negated, number_of_faulty, operation, pair, pair_operator, plain, run_operator}
use Rattle.occ_expr_operations.specs.Parts.{ExprView, Said, call, call_of, call_of_type, element_of_type, in_scope, named_element, no_call, only, table, table_as, terms, whole_element, whole_element_of}
use Rattle.occ_expr_operations.specs.Views.{BoundsView, BuiltinView, DimensionView, ElementView, NamedOperandView, OperandView, TypeFormView, bounds_view, builtin_view, decorated, decorated_table, digits_of, dimension_view, dimension_views, each, element_view, expr_view, expr_views, named_operand_view, operand_view, operand_views, operands, type_form_view}
use Rattle.occ_expr_operations.specs.Written.{array_over, array_over_more, data_form}
use Rattle.occ_expr_operations.specs.declared.written.Opening.TheVariants as opening
use Rattle.occ_expr_operations.proofs.Layers as layers
use Rattle.occ_expr_operations.proofs.Views as views
use Rattle.occ_forms_expressions.proofs.Induction.{Every, Steps, every_element, every_expr, every_operand, every_type_form}
use Rattle.occ_forms_expressions.specs.declared.tree.Bounds.{Bounds}
use Rattle.occ_forms_expressions.specs.declared.tree.Bounds.TheOpen.{Operand-F}
use Rattle.occ_forms_expressions.specs.declared.tree.Bounds.TheVariants as bv
use Rattle.occ_forms_expressions.specs.declared.tree.Bounds.TheViews.{roll-out-Operand}
use Rattle.occ_forms_expressions.specs.declared.tree.Builtin.{Builtin}
use Rattle.occ_forms_expressions.specs.declared.tree.Builtin.TheVariants as uv
use Rattle.occ_forms_expressions.specs.declared.tree.Dimension.{Dimension}
use Rattle.occ_forms_expressions.specs.declared.tree.Dimension.TheVariants as dv
use Rattle.occ_forms_expressions.specs.declared.tree.Element.{Element}
use Rattle.occ_forms_expressions.specs.declared.tree.Element.TheVariants as ev
use Rattle.occ_forms_expressions.specs.declared.tree.Expr.{Expr}
use Rattle.occ_forms_expressions.specs.declared.tree.Expr.TheVariants as xv
use Rattle.occ_forms_expressions.specs.declared.tree.Extreme.{Extreme}
use Rattle.occ_forms_expressions.specs.declared.tree.Literal.{Literal}
use Rattle.occ_forms_expressions.specs.declared.tree.Literal.TheVariants as l
use Rattle.occ_forms_expressions.specs.declared.tree.MonadicOperator.{MonadicOperator}
use Rattle.occ_forms_expressions.specs.declared.tree.MonadicOperator.TheVariants as mo
use Rattle.occ_forms_expressions.specs.declared.tree.NamedOperand.{NamedOperand}
use Rattle.occ_forms_expressions.specs.declared.tree.NamedOperand.TheVariants as nv
use Rattle.occ_forms_expressions.specs.declared.tree.Operand.{Operand, out-Operand, roll-Operand}
use Rattle.occ_forms_expressions.specs.declared.tree.Operand.TheVariants as ov
use Rattle.occ_forms_expressions.specs.declared.tree.PairOperator.{PairOperator}
use Rattle.occ_forms_expressions.specs.declared.tree.PairOperator.TheVariants as po
use Rattle.occ_forms_expressions.specs.declared.tree.RunOperator.{RunOperator}
use Rattle.occ_forms_expressions.specs.declared.tree.TypeForm.{TypeForm}
use Rattle.occ_forms_expressions.specs.declared.tree.TypeForm.TheVariants as tv
use Rattle.occ_scope.specs.Lookup.{data_type}
use Rattle.occ_scope.specs.Visible.{visible}
use Rattle.occ_scope.specs.declared.meaning.Meaning.{Meaning}
use Rattle.occ_scope.specs.declared.meaning.Meaning.TheVariants as meaning
use Rattle.occ_scope.specs.declared.scope.Scope.{Scope}
use Rattle.occ_typing_operands.specs.Operators.{class_of, is_arithmetic, is_not, kinds}
use Rattle.occ_typing_operands.specs.Outcomes.{decimal, fitting}
use Rattle.occ_typing_operands.specs.Settling.{base_of, int}
use Rattle.occ_typing_operands.specs.Wanting.{converts}
use Rattle.occ_typing_operands.specs.declared.kind.Kind.{Kind}
use Rattle.occ_typing_operands.specs.declared.kind.Kind.TheVariants as k
use Rattle.occ_typing_operands.specs.declared.kind.Known.{Known}
use Rattle.occ_typing_rules.specs.Placing.{constant_in}
use Rattle.occ_typing_tables.specs.Measuring.{size_of_array, size_outcome, sized}
use Rattle.occ_typing_tables.specs.Terms.{Judged, judged, judged_all}
use Rattle.occ_typing_tables.specs.declared.term.Term.TheVariants as v
use Rattle.occ_types.specs.Constant.{number_value}
use Rattle.occ_types.specs.Fits.{fits, unnamed}
use Rattle.occ_types.specs.View.{as_array}
use Rattle.occ_types.specs.declared.constant.Monadic.{Monadic}
use Rattle.occ_types.specs.declared.constant.Monadic.TheVariants as m
use Rattle.occ_types.specs.declared.constant.Operator.TheVariants as op
use Rattle.occ_types.specs.declared.types.OccType.{OccType}
use Rattle.occ_types.specs.declared.value.Primitive.TheVariants as p
use Rattle.occ_types.specs.declared.value.Value.{Value}
use Rattle.occ_has_type.specs.Free.{are_free, is_free, is_free_named, is_free_operand, is_integer, pair_is_free, stays_free}
use Rattle.occ_has_type.specs.Trees.{digits_in, digits_layer, front_operator}
use Rattle.occ_has_type.specs.Types.{CallHasType, DecoratedHasType, ElementHasType, HasType, IsArrayOf, IsBuiltin, IsData, IsNoNegative, IsTable, IsTableAlone, IsTableOf, IsWritten, LiteralHasType, NamedAlone, NamedHasType, OperandAlone, OperandHasType, StandsAlone, Takes}
use Rattle.occ_has_type.specs.Types as has
use Rattle.occ_has_type.specs.Values.{IsCast, IsCount}
use Rattle.occ_has_type.proofs.Calling.{CallKnown, DecoratedKnown, MostKnown, converted_known, decorated_known, decorated_literal_known, extreme_known, function_known, literal_means, unknown_type}
use Rattle.occ_has_type.proofs.Frees as frees
use Rattle.occ_has_type.proofs.Gives.{Any, any_as}
use Rattle.occ_has_type.proofs.Means.{Converts, Has, IsGood, Knows, Means, knows_as, knows_landed, means_as}
use Rattle.occ_has_type.proofs.Names.{IsNamed, element_through, name_if_alone, name_through}
use Rattle.occ_has_type.proofs.Operating.{AllMean, Beside, front_means, fronts_beside, integer_means, operated_means, shift_means, shifts_beside}
use Rattle.occ_has_type.proofs.Outcomes.{each_good, fitting_good}
use Rattle.occ_has_type.proofs.Reading.{AllRead, Alone_of, Decorates, ItemReads, NoPrimitive, Reads, TableAlone, TableTaken, Taken, reads_as, reads_free, single_reads, table_reads, typed_means}
use Rattle.occ_has_type.proofs.Selecting.{BoundsRead, Element_of, ExprReads, OfExpr, for_reads, from_for_reads, from_reads, named_known, segment_known}
use Rattle.occ_has_type.proofs.Written.{AllSpan, Names, Over, Spans, array_any, array_more_any, channel_any, counted_any, data_any, named_any, sized_spans}

-- ---- what is shown of each form

abbrev OfBounds : Bounds → Type 0
OfBounds b = (s : Scope) → BoundsRead s b ((bounds_view b).said s).bounds

abbrev OfBuiltin : Builtin → Type 0
OfBuiltin b = (s : Scope) → Any (IsBuiltin s b) (builtin_view b s).found

abbrev OfDimension : Dimension → Type 0
OfDimension d = (s : Scope) → Spans s d (dimension_view d opening.Refused s).extent

pub record ElementReads (e : Element) (v : ElementView) : Type 0 where
  pub name : IsNamed e (λ name. ev.Named name []) v.name
  pub reported : (s : Scope) → Knows (Element_of s e) (v.reported s).kind
  pub whole : (s : Scope) → Knows (λ x. HasType s (xv.Alone (ov.Element e)) x.of x.value) (v.whole s).kind

abbrev pub OfElement : Element → Type 0
OfElement e = ElementReads e (element_view e)

-- one of a whole, where no type is wanted of it or where it stands beside others
abbrev PartReads : Scope → Operand → Judged → Type 0
PartReads s e j = Reads (is_free_operand e) (OperandAlone s e) (Takes s (xv.Alone e)) (Beside (OperandHasType s e)) j

-- nothing is asked where a type is wanted
abbrev AnyType : OccType → Has
AnyType to of value = Unit {0}

record OperandReads (e : Operand) (v : OperandView) : Type 0 where
  name : IsNamed e (λ name. ov.Element (ev.Named name [])) v.name
  digits : v.digits ≡ digits_in e
  part : (s : Scope) → PartReads s e (judged (v.said s).term)
  whole : (s : Scope) → ItemReads s (xv.Alone e) (judged (v.whole s).term)

abbrev OfOperand : Operand → Type 0
OfOperand e = OperandReads e (operand_view e)

abbrev NamedReads : NamedOperand → NamedOperandView → Type 0
NamedReads e v = (s : Scope) → Reads (is_free_named e) (NamedAlone s e) AnyType (Beside (NamedHasType s e)) (judged (v.said s).term)

abbrev OfNamed : NamedOperand → Type 0
OfNamed e = NamedReads e (named_operand_view e)

abbrev pub OfType : TypeForm → Type 0
OfType ty = (s : Scope) → Any (IsWritten s ty) (type_form_view ty opening.Refused s).found

-- ---- under another name

beside_as : (H J : Has) → ((of : OccType) (value : Option Value) → H of value → J of value) → (of : OccType) (value : Option Value) → Beside H of value → Beside J of value
beside_as H J make of value (inl h) = inl (make of value h)
beside_as H J make of value (inr none) = inr none

-- an expression that is no table
expr_single : (s : Scope) (e : Expr) (kind : Kind) (free : Bool) → is_free e ≡ free → Means free (HasType s e) kind → ItemReads s e (judged (v.Single kind))
expr_single s e kind free is h =
    let g : Means (is_free e) (HasType s e) kind = subst (λ (b : Bool). Means b (HasType s e) kind) (sym is) h in
    reads_as (is_free e) (Alone_of (is_free e) (HasType s e)) (StandsAlone s e) (Taken (HasType s e)) (Takes s e) (Beside (HasType s e)) (Beside (HasType s e)) (judged (v.Single kind))
    (λ of value i. has.by_itself e of value i.0 i.1) (λ to of value i. has.fitting e to of value i.0 i.1) (λ of value i. i) (single_reads (is_free e) (HasType s e) kind g)

operand_single : (s : Scope) (e : Operand) (kind : Kind) (free : Bool) → is_free_operand e ≡ free → Means free (OperandHasType s e) kind → PartReads s e (judged (v.Single kind))
operand_single s e kind free is h =
    let g : Means (is_free_operand e) (OperandHasType s e) kind = subst (λ (b : Bool). Means b (OperandHasType s e) kind) (sym is) h in
    reads_as (is_free_operand e) (Alone_of (is_free_operand e) (OperandHasType s e)) (OperandAlone s e) (Taken (OperandHasType s e)) (Takes s (xv.Alone e)) (Beside (OperandHasType s e)) (Beside (OperandHasType s e)) (judged (v.Single kind))
    (λ of value i. has.operand_by_itself e of value i.0 i.1) (λ to of value i. has.fitting (xv.Alone e) to of value (has.operand e of value i.0) i.1) (λ of value i. i) (single_reads (is_free_operand e) (OperandHasType s e) kind g)

named_single : (s : Scope) (e : NamedOperand) (kind : Kind) (free : Bool) → is_free_named e ≡ free → Means free (NamedHasType s e) kind → Reads (is_free_named e) (NamedAlone s e) AnyType (Beside (NamedHasType s e)) (judged (v.Single kind))
named_single s e kind free is h =
    let g : Means (is_free_named e) (NamedHasType s e) kind = subst (λ (b : Bool). Means b (NamedHasType s e) kind) (sym is) h in
    reads_as (is_free_named e) (Alone_of (is_free_named e) (NamedHasType s e)) (NamedAlone s e) (Taken (NamedHasType s e)) AnyType (Beside (NamedHasType s e)) (Beside (NamedHasType s e)) (judged (v.Single kind))
    (λ of value i. has.named_by_itself e of value i.0 i.1) (λ to of value i. tt) (λ of value i. i) (single_reads (is_free_named e) (NamedHasType s e) kind g)

expr_typed : (s : Scope) (e : Expr) (kind : Kind) → is_free e ≡ false → Knows (λ x. HasType s e x.of x.value) kind → ItemReads s e (judged (v.Single kind))
expr_typed s e kind is h = expr_single s e kind false is (typed_means (HasType s e) kind h)

operand_typed : (s : Scope) (e : Operand) (kind : Kind) → is_free_operand e ≡ false → Knows (λ x. OperandHasType s e x.of x.value) kind → PartReads s e (judged (v.Single kind))
operand_typed s e kind is h = operand_single s e kind false is (typed_means (OperandHasType s e) kind h)

named_typed : (s : Scope) (e : NamedOperand) (kind : Kind) → is_free_named e ≡ false → Knows (λ x. NamedHasType s e x.of x.value) kind → Reads (is_free_named e) (NamedAlone s e) AnyType (Beside (NamedHasType s e)) (judged (v.Single kind))
named_typed s e kind is h = named_single s e kind false is (typed_means (NamedHasType s e) kind h)

-- an operand that stands alone is a whole expression
operand_stands : (s : Scope) (e : Operand) (of : OccType) (value : Option Value) → OperandAlone s e of value → StandsAlone s (xv.Alone e) of value
operand_stands s _ _ _ (has.operand_by_itself e of value h a) = has.by_itself (xv.Alone e) of value (has.operand e of value h) (λ free. a (sym (frees.alone e) ∙ free))
operand_stands s _ _ _ (has.operand_table e es of is h) = has.table_by_itself (xv.Alone e) es of (has.table_alone e es is) h

alone_reads : (s : Scope) (e : Operand) (j : Judged) → PartReads s e j → ItemReads s (xv.Alone e) j
alone_reads s e j h =
    reads_free (is_free (xv.Alone e)) (is_free_operand e) (StandsAlone s (xv.Alone e)) (Takes s (xv.Alone e)) (Beside (HasType s (xv.Alone e))) j (frees.alone e)
    (reads_as (is_free_operand e) (OperandAlone s e) (StandsAlone s (xv.Alone e)) (Takes s (xv.Alone e)) (Takes s (xv.Alone e)) (Beside (OperandHasType s e)) (Beside (HasType s (xv.Alone e))) j
    (operand_stands s e) (λ to of value g. g) (beside_as (OperandHasType s e) (HasType s (xv.Alone e)) (λ of value g. has.operand e of value g)) h)

-- ---- lists

all_spans : (s : Scope) (ds : List Dimension) → Every OfDimension ds → AllSpan s ds (each opening.Refused s (dimension_views ds))
all_spans s [] h = tt
all_spans s (d ∷ ds) h = (h.0 s, all_spans s ds h.1)

all_read : (s : Scope) (es : List Expr) → Every OfExpr es → AllRead s es (judged_all (terms (in_scope s (expr_views es))))
all_read s [] h = tt
all_read s (e ∷ es) h = (h.0.reads s, all_read s es h.1)

all_mean : (s : Scope) (n : ℕ) (es : List Operand) → Every OfOperand es → AllMean s es (kinds (each_among n (judged_all (terms (operands s (operand_views es))))))
all_mean s n [] h = tt
all_mean s n (e ∷ es) h = ((h.0.part s).beside (another_has_fault n (judged ((operand_view e).said s).term)), all_mean s n es h.1)

-- ---- conversions

conversion_known : (to : Option OccType) (P : OccType → Type 0) (free : Bool) (A : Has) (T : OccType → Has) (B J : Has) (j : Judged) → Any P to → Reads free A T B j
    → ((of : OccType) (from : OccType) (inner value : Option Value) → P of → A from inner → converts of from ≡ true → IsCast (base_of of) inner value → J of value)
    → Knows (λ x. J x.of x.value) (converted to j).kind
conversion_known None P free A T B J j h g make = unknown_type (λ x. J x.of x.value) j
conversion_known (Some to) P free A T B J j h g make =
    knows_as (Converts to A) (λ x. J x.of x.value) (converted (Some to) j).kind
    (λ x c. subst (λ (of : OccType). J of x.value) (sym c.0) (make to c.1 c.2 x.value h c.3 c.4 c.5)) (converted_known to free A T B j g)

-- ---- `n [e]`, of a data type

one_converted : (s : Scope) (name : List ℕ) (e : Expr) (to : Option OccType) → visible s name ≡ Some (meaning.Type to) → OfExpr e
    → Knows (λ x. HasType s (xv.Alone (ov.Element (ev.Named name (e ∷ [])))) x.of x.value) (converted to (judged (table ((expr_view e).said s ∷ [])).term)).kind
one_converted s name e to is h =
    conversion_known to (λ of. to ≡ Some of) false (TableAlone s (e ∷ [])) (TableTaken s (e ∷ [])) NoPrimitive (HasType s (xv.Alone (ov.Element (ev.Named name (e ∷ []))))) (judged (table ((expr_view e).said s ∷ [])).term)
    (itself to) (table_reads s e [] (((expr_view e).said s).term ∷ []) (h.reads s, tt))
    (λ of from inner value at g c i. has.table_converted name e of from value (is ∙ ap (λ (z : Option OccType). Some (meaning.Type z)) at) g.0 c (subst (λ (z : Option Value). IsCast (base_of of) z value) g.1 i))
  where
    itself : (o : Option OccType) → Any (λ of. o ≡ Some of) o
    itself None = tt
    itself (Some of) = refl

as_element : (s : Scope) (e : Element) (kind : Kind) → Knows (Element_of s e) kind → Knows (λ x. HasType s (xv.Alone (ov.Element e)) x.of x.value) kind
as_element s e kind h = knows_as (Element_of s e) (λ x. HasType s (xv.Alone (ov.Element e)) x.of x.value) kind (λ x g. has.operand (ov.Element e) x.of x.value (has.element e x.of x.value g)) h

type_known : (s : Scope) (name : List ℕ) (es : List Expr) (to : Option OccType) → visible s name ≡ Some (meaning.Type to) → Every OfExpr es
    → Knows (λ x. HasType s (xv.Alone (ov.Element (ev.Named name es))) x.of x.value) (element_of_type s name (expr_views es) to (only (expr_views es))).kind
type_known s name [] to is h = as_element s (ev.Named name []) (named_element s name []).kind (named_known s name [] h)
type_known s name (e ∷ []) to is h = one_converted s name e to is h.0
type_known s name (e ∷ f ∷ es) to is h = as_element s (ev.Named name (e ∷ f ∷ es)) (named_element s name (expr_views (e ∷ f ∷ es))).kind (named_known s name (e ∷ f ∷ es) h)

whole_known : (s : Scope) (name : List ℕ) (es : List Expr) (found : Option Meaning) → visible s name ≡ found → Every OfExpr es
    → Knows (λ x. HasType s (xv.Alone (ov.Element (ev.Named name es))) x.of x.value) (whole_element_of s name (expr_views es) found).kind
whole_known s name es None is h = as_element s (ev.Named name es) (named_element s name (expr_views es)).kind (named_known s name es h)
whole_known s name es (Some meaning.Faulty) is h = as_element s (ev.Named name es) (named_element s name (expr_views es)).kind (named_known s name es h)
whole_known s name es (Some (meaning.Type to)) is h = type_known s name es to is h
whole_known s name es (Some (meaning.Protocol c)) is h = as_element s (ev.Named name es) (named_element s name (expr_views es)).kind (named_known s name es h)
whole_known s name es (Some (meaning.Procedure fs)) is h = as_element s (ev.Named name es) (named_element s name (expr_views es)).kind (named_known s name es h)
whole_known s name es (Some (meaning.Function fs results)) is h = as_element s (ev.Named name es) (named_element s name (expr_views es)).kind (named_known s name es h)
whole_known s name es (Some (meaning.Element w)) is h = as_element s (ev.Named name es) (named_element s name (expr_views es)).kind (named_known s name es h)

whole_element_known : (s : Scope) (name : List ℕ) (es : List Expr) → Every OfExpr es → Knows (λ x. HasType s (xv.Alone (ov.Element (ev.Named name es))) x.of x.value) (whole_element s name (expr_views es)).kind
unfolding whole_element
whole_element_known s name es h = whole_known s name es (visible s name) refl h

digits_at : (e : Operand) (y : Operand-F Bounds Builtin Dimension Element Expr NamedOperand Operand TypeForm) → out-Operand e ≡ y → digits_layer y ≡ digits_in e
unfolding digits_in
digits_at e y is = ap digits_layer (sym is)

literal_digits : (lit : Literal) → digits_of lit ≡ digits_layer (Operand-F.Operand::Literal lit)
literal_digits (l.Decimal i) = refl
literal_digits (l.Hexadecimal i) = refl
literal_digits (l.Character b) = refl
literal_digits (l.String bytes) = refl

-- ---- calls

none_called : (s : Scope) (name : List ℕ) (es : List ExprView) (Q : Known → Type 0) → Knows Q (no_call s name es).kind
unfolding no_call
none_called s name es Q = tt

type_call : (s : Scope) (name : List ℕ) (es : List Expr) (to : Option OccType) → visible s name ≡ Some (meaning.Type to) → Every OfExpr es
    → Knows (λ x. CallHasType s name es x.of x.value) (call_of_type s name (expr_views es) to (only (expr_views es))).kind
type_call s name [] to is h = none_called s name [] (λ x. CallHasType s name [] x.of x.value)
type_call s name (e ∷ []) to is h =
    conversion_known to (λ of. to ≡ Some of) (is_free e) (StandsAlone s e) (Takes s e) (Beside (HasType s e)) (CallHasType s name (e ∷ [])) (judged ((expr_view e).said s).term) (itself to) (h.0.reads s)
    (λ of from inner value at g c i. has.conversion name e of from inner value (is ∙ ap (λ (z : Option OccType). Some (meaning.Type z)) at) g c i)
  where
    itself : (o : Option OccType) → Any (λ of. o ≡ Some of) o
    itself None = tt
    itself (Some of) = refl
type_call s name (e ∷ f ∷ es) to is h = none_called s name (expr_views (e ∷ f ∷ es)) (λ x. CallHasType s name (e ∷ f ∷ es) x.of x.value)

call_known_of : (s : Scope) (name : List ℕ) (es : List Expr) (found : Option Meaning) → visible s name ≡ found → Every OfExpr es
    → Knows (λ x. CallHasType s name es x.of x.value) (call_of s name (expr_views es) found).kind
call_known_of s name es None is h = none_called s name (expr_views es) (λ x. CallHasType s name es x.of x.value)
call_known_of s name es (Some meaning.Faulty) is h = none_called s name (expr_views es) (λ x. CallHasType s name es x.of x.value)
call_known_of s name es (Some (meaning.Type to)) is h = type_call s name es to is h
call_known_of s name es (Some (meaning.Protocol c)) is h = none_called s name (expr_views es) (λ x. CallHasType s name es x.of x.value)
call_known_of s name es (Some (meaning.Procedure fs)) is h = none_called s name (expr_views es) (λ x. CallHasType s name es x.of x.value)
call_known_of s name es (Some (meaning.Function formals results)) is h =
    let kind = (call_of s name (expr_views es) (Some (meaning.Function formals results))).kind in
    knows_as (CallKnown s es formals results) (λ x. CallHasType s name es x.of x.value) kind
    (λ x c. subst (CallHasType s name es x.of) (sym c.1) (has.function name es formals x.of (is ∙ ap (λ (z : List OccType). Some (meaning.Function formals z)) c.0) c.2))
    (function_known s es formals results (in_scope s (expr_views es)) (all_read s es h))
call_known_of s name es (Some (meaning.Element w)) is h = none_called s name (expr_views es) (λ x. CallHasType s name es x.of x.value)

call_known : (s : Scope) (name : List ℕ) (es : List Expr) → Every OfExpr es → Knows (λ x. CallHasType s name es x.of x.value) (call s name (expr_views es)).kind
unfolding call
call_known s name es h = call_known_of s name es (visible s name) refl h

-- ---- operators

true_last : (b : Bool) → (b && true) ≡ b
true_last true = refl
true_last false = refl

run_means : (s : Scope) (operator : RunOperator) (a b : Operand) (es : List Operand) → Every OfOperand (a ∷ b ∷ es)
    → Means (is_arithmetic (class_of (run_operator operator)) && are_free (a ∷ b ∷ es)) (HasType s (xv.Run operator a b es)) (operation (run_operator operator) (judged_all (terms (operands s (operand_views (a ∷ b ∷ es)))))).kind
unfolding operation
run_means s operator a b es h =
    let js = judged_all (terms (operands s (operand_views (a ∷ b ∷ es)))) in
    operated_means s (run_operator operator) a (b ∷ es) (kinds (each_among (number_of_faulty js) js)) (HasType s (xv.Run operator a b es))
    (λ of values value g al c r. has.run operator a b es of values value g al c r) (all_mean s (number_of_faulty js) (a ∷ b ∷ es) h)

pair_means : (s : Scope) (a b : Operand) (operator : PairOperator) → OfOperand a → OfOperand b
    → Means (pair_is_free operator (is_free_operand a) (is_free_operand b)) (HasType s (xv.Pair a operator b)) (pair operator (judged ((operand_view a).said s).term) (judged ((operand_view b).said s).term)).kind
unfolding pair operation plain
pair_means s a b po.ShiftLeft h g =
    shift_means op.ShiftLeft (is_free_operand a) (is_free_operand b) (Beside (OperandHasType s a)) (Beside (OperandHasType s b)) (HasType s (xv.Pair a po.ShiftLeft b)) ((judged ((operand_view a).said s).term).beside false).kind ((judged ((operand_view b).said s).term).beside false).kind
    (shifts_beside op.ShiftLeft (OperandHasType s a) (OperandHasType s b) (HasType s (xv.Pair a po.ShiftLeft b)) (λ of by left count value x n y i z. has.shift a po.ShiftLeft b op.ShiftLeft of by left count value refl x n y i z)) ((h.part s).beside false) ((g.part s).beside false)
pair_means s a b po.ShiftRight h g =
    shift_means op.ShiftRight (is_free_operand a) (is_free_operand b) (Beside (OperandHasType s a)) (Beside (OperandHasType s b)) (HasType s (xv.Pair a po.ShiftRight b)) ((judged ((operand_view a).said s).term).beside false).kind ((judged ((operand_view b).said s).term).beside false).kind
    (shifts_beside op.ShiftRight (OperandHasType s a) (OperandHasType s b) (HasType s (xv.Pair a po.ShiftRight b)) (λ of by left count value x n y i z. has.shift a po.ShiftRight b op.ShiftRight of by left count value refl x n y i z)) ((h.part s).beside false) ((g.part s).beside false)
pair_means s a b operator h g =
    let js = judged_all (terms (operands s (operand_views (a ∷ b ∷ [])))) in
    let J = HasType s (xv.Pair a operator b) in
    let kind = (operation (pair_operator operator) js).kind in
    subst (λ (z : Bool). Means (is_arithmetic (class_of (pair_operator operator)) && (is_free_operand a && z)) J kind) (true_last (is_free_operand b))
    (operated_means s (pair_operator operator) a (b ∷ []) (kinds (each_among (number_of_faulty js) js)) J (λ of values value i al c r. has.pair a operator b of values value refl i al c r)
    (all_mean s (number_of_faulty js) (a ∷ b ∷ []) (h, (g, tt))))

-- an operator that is not `-`
abbrev IsOther : MonadicOperator → Type 0
IsOther mo.Negate = ⊥
IsOther mo.Minus = Unit {0}
IsOther mo.BitNot = Unit {0}
IsOther mo.BitNotWord = Unit {0}
IsOther mo.Not = Unit {0}
IsOther mo.Size = Unit {0}

no_negate : (operator : MonadicOperator) → operator ≡ mo.Negate → IsOther operator → ⊥
no_negate operator is h = subst IsOther is h

abbrev literal_or : Option ℕ → Operand → Operand
literal_or None e = e
literal_or (Some i) e = ov.Literal (l.Decimal i)

literal_layer : (y : Operand-F Bounds Builtin Dimension Element Expr NamedOperand Operand TypeForm) (i : ℕ) → digits_layer y ≡ Some i → roll-Operand y ≡ ov.Literal (l.Decimal i)
literal_layer (Operand-F.Operand::Literal (l.Decimal n)) i is = ov.rolls-Literal (l.Decimal n) ∙ ap (λ (z : Option ℕ). literal_or z (ov.Literal (l.Decimal n))) is
literal_layer (Operand-F.Operand::Literal (l.Hexadecimal n)) i is = absurd cc
literal_layer (Operand-F.Operand::Literal (l.Character b)) i is = absurd cc
literal_layer (Operand-F.Operand::Literal (l.String bytes)) i is = absurd cc
literal_layer (Operand-F.Operand::Element el) i is = absurd cc
literal_layer (Operand-F.Operand::Decorated lit of) i is = absurd cc
literal_layer (Operand-F.Operand::Truth b) i is = absurd cc
literal_layer (Operand-F.Parens e) i is = absurd cc
literal_layer (Operand-F.Operand::Table e es) i is = absurd cc
literal_layer (Operand-F.Operand::DecoratedTable e es of) i is = absurd cc
literal_layer (Operand-F.Operand::Call name es) i is = absurd cc

literal_of : (e : Operand) (i : ℕ) → digits_in e ≡ Some i → e ≡ ov.Literal (l.Decimal i)
unfolding digits_in
literal_of e i is = sym (roll-out-Operand e) ∙ literal_layer (out-Operand e) i is

front_of : (s : Scope) (e : Operand) (operator : MonadicOperator) (means : Monadic) (j : Judged) → front_operator operator ≡ Some means → IsNoNegative operator e → PartReads s e j
    → Means (not (is_not means) && is_free_operand e) (HasType s (xv.Applied operator e)) (in_front means j).kind
unfolding plain
front_of s e operator means j is never h =
    front_means means (is_free_operand e) (Beside (OperandHasType s e)) (HasType s (xv.Applied operator e)) (j.beside false).kind
    (fronts_beside means (OperandHasType s e) (HasType s (xv.Applied operator e)) (λ of a value g tk i. has.front operator means e of a value is never g tk i)) (h.beside false)

negated_means : (s : Scope) (e : Operand) (digits : Option ℕ) (j : Judged) → digits ≡ digits_in e → PartReads s e j
    → Means (is_free_operand e) (HasType s (xv.Applied mo.Negate e)) (negated digits j).kind
negated_means s e None j is h = front_of s e mo.Negate m.Negate j refl (λ _. sym is) h
negated_means s e (Some i) j is h = (
  ap is_free_operand (literal_of e i (sym is)) ∙ frees.literal (l.Decimal i),
  integer_means (HasType s (xv.Applied mo.Negate e)) (decimal (pos 0 -ℤ pos i)) (λ base. number_value base (pos 0 -ℤ pos i)) (λ base good. each_good false (λ x. fitting (number_value x (pos 0 -ℤ pos i))) base good)
      (λ of base value n at. subst (λ (z : Operand). HasType s (xv.Applied mo.Negate z) of (Some value)) (sym (literal_of e i (sym is))) (has.negative i of base value n at)),
)

count_good : (n : Option ℕ) → IsGood (size_outcome n) → IsCount n (constant_in (size_outcome n))
count_good None h = refl
count_good (Some n) h = let x = fitting_good (number_value p.Int (pos n)) h in (x.value, x.is, x.shown)

size_known : (s : Scope) (e : Operand) (kind : Kind) → Knows (λ x. OperandAlone s e x.of x.value) kind → Knows (λ x. HasType s (xv.Applied mo.Size e) x.of x.value) (sized kind).kind
size_known s e k.Faulty h = tt
size_known s e (k.Untyped f) h = absurd h
size_known s e (k.Known x) h = by (as_array (unnamed x.of)) refl where
  by : (parts : Option (Option ℕ × OccType)) → as_array (unnamed x.of) ≡ parts → Knows (λ y. HasType s (xv.Applied mo.Size e) y.of y.value) (size_of_array parts).kind
  by None is = tt
  by (Some parts) is = knows_landed (λ y. HasType s (xv.Applied mo.Size e) y.of y.value) int (size_outcome parts.0) (λ good. has.size e x.of x.value (constant_in (size_outcome parts.0)) parts h is (count_good parts.0 good))

applied_means : (s : Scope) (e : Operand) (operator : MonadicOperator) (digits : Option ℕ) (j : Judged) → digits ≡ digits_in e → PartReads s e j
    → Means (stays_free operator && is_free_operand e) (HasType s (xv.Applied operator e)) (applied operator digits j).kind
unfolding applied
applied_means s e mo.Negate digits j is h = negated_means s e digits j is h
applied_means s e mo.Minus digits j is h = front_of s e mo.Minus m.Minus j refl (λ other. absurd (no_negate mo.Minus other tt)) h
applied_means s e mo.BitNot digits j is h = front_of s e mo.BitNot m.BitNot j refl (λ other. absurd (no_negate mo.BitNot other tt)) h
applied_means s e mo.BitNotWord digits j is h = front_of s e mo.BitNotWord m.BitNot j refl (λ other. absurd (no_negate mo.BitNotWord other tt)) h
applied_means s e mo.Not digits j is h = front_of s e mo.Not m.Not j refl (λ other. absurd (no_negate mo.Not other tt)) h
applied_means s e mo.Size digits j is h =
    typed_means (HasType s (xv.Applied mo.Size e)) (sized j.alone.kind).kind
    (size_known s e j.alone.kind h.by_itself)

-- ---- what has a type after it

typed_table : (s : Scope) (e : Expr) (es : List Expr) (ty : TypeForm) (J : Has) → OfType ty → Every OfExpr (e ∷ es) → ((to : OccType) → IsWritten s ty to → IsTableOf s (e ∷ es) to → J to None)
    → Knows (λ x. J x.of x.value) (decorated_table s (expr_views (e ∷ es)) (type_form_view ty)).kind
unfolding table_as
typed_table s e es ty J h g make = by (type_form_view ty opening.Refused s).found (h s) where
  by : (to : Option OccType) → Any (IsWritten s ty) to → Knows (λ x. J x.of x.value) (table_as to (terms (in_scope s (expr_views (e ∷ es))))).kind
  by None i = tt
  by (Some to) i =
      knows_as (Decorates s (e ∷ es) to) (λ x. J x.of x.value) (table_as (Some to) (terms (in_scope s (expr_views (e ∷ es))))).kind
      (λ x c. subst (λ (of : OccType). J of x.value) (sym c.0) (subst (J to) (sym c.1) (make to i c.2))) (decorated_known s (e ∷ es) (terms (in_scope s (expr_views (e ∷ es)))) to (all_read s (e ∷ es) g))

typed_literal : (s : Scope) (lit : Literal) (ty : TypeForm) (J : Has) → OfType ty → ((to : OccType) (value : Option Value) → IsWritten s ty to → DecoratedHasType lit to value → J to value)
    → Knows (λ x. J x.of x.value) (decorated (type_form_view ty opening.Refused s) lit).kind
unfolding decorated_literal
typed_literal s lit ty J h make = by (type_form_view ty opening.Refused s).found (h s) where
  by : (to : Option OccType) → Any (IsWritten s ty) to → Knows (λ x. J x.of x.value) (decorated_literal to lit).kind
  by None i = tt
  by (Some to) i = knows_as (DecoratedKnown lit to) (λ x. J x.of x.value) (decorated_literal (Some to) lit).kind (λ x c. subst (λ (of : OccType). J of x.value) (sym c.0) (make to x.value i c.1)) (decorated_literal_known lit to)

most_reads : (s : Scope) (end : Extreme) (ty : TypeForm) → OfType ty → Knows (λ x. HasType s (xv.Most end ty) x.of x.value) (extreme_of end (type_form_view ty opening.Refused s).found).kind
unfolding extreme_of
most_reads s end ty h = by (type_form_view ty opening.Refused s).found (h s) where
  by : (to : Option OccType) → Any (IsWritten s ty) to → Knows (λ x. HasType s (xv.Most end ty) x.of x.value) (extreme_of end to).kind
  by None i = tt
  by (Some to) i =
      knows_as (MostKnown end to) (λ x. HasType s (xv.Most end ty) x.of x.value) (extreme_of end (Some to)).kind
      (λ x c. subst (λ (of : OccType). HasType s (xv.Most end ty) of x.value) (sym c.0) (subst (HasType s (xv.Most end ty) to) (sym c.3) (has.most end ty to c.1 i c.2))) (extreme_known end to)

-- an operand that is the same as a whole expression
either : (e : Operand) (w : OperandView) → w.name ≡ None → w.digits ≡ digits_in e → ((s : Scope) → w.whole s ≡ w.said s) → ((s : Scope) → PartReads s e (judged (w.said s).term)) → OperandReads e w
either e w is at same h = record {
  name = subst (IsNamed e (λ name. ov.Element (ev.Named name []))) (sym is) tt;
  digits = at;
  part = h;
  whole = λ s. subst (λ (x : Said). ItemReads s (xv.Alone e) (judged x.term)) (sym (same s)) (alone_reads s e (judged (w.said s).term) (h s));
}

table_part : (s : Scope) (e : Expr) (es : List Expr) (free : Bool) (A : Has) (T : OccType → Has) (B : Has) → free ≡ false → Every OfExpr (e ∷ es)
    → ((of : OccType) → IsTableAlone s (e ∷ es) of → A of None) → ((to of : OccType) (parts : Option ℕ × OccType) → as_array to ≡ Some parts → IsTable s (e ∷ es) parts.1 of → fits to of ≡ true → T to of None)
    → Reads free A T (Beside B) (judged (table (in_scope s (expr_views (e ∷ es)))).term)
table_part s e es free A T B is h alone taken =
    let j = judged (table (in_scope s (expr_views (e ∷ es)))).term in
    reads_free free false A T (Beside B) j is
    (reads_as false (TableAlone s (e ∷ es)) A (TableTaken s (e ∷ es)) T NoPrimitive (Beside B) j (λ of value g. subst (A of) (sym g.1) (alone of g.0))
    (λ to of value g. subst (T to of) (sym g.4) (taken to of g.0 g.1 g.2 g.3)) (λ of value g. inr g)
    (table_reads s e es (terms (in_scope s (expr_views (e ∷ es)))) (all_read s (e ∷ es) h)))

-- parentheses
parens_alone : (s : Scope) (e : Expr) (of : OccType) (value : Option Value) → StandsAlone s e of value → OperandAlone s (ov.Parens e) of value
parens_alone s _ _ _ (has.by_itself e of value h a) = has.operand_by_itself (ov.Parens e) of value (has.parens e of value h) (λ free. a (sym (frees.parens e) ∙ free))
parens_alone s _ _ _ (has.table_by_itself e es of is h) = has.operand_table (ov.Parens e) es of (has.table_in_parens e es is) h

parens_takes : (s : Scope) (e : Expr) (to of : OccType) (value : Option Value) → Takes s e to of value → Takes s (xv.Alone (ov.Parens e)) to of value
parens_takes s _ _ _ _ (has.fitting e to of value h fit) = has.fitting (xv.Alone (ov.Parens e)) to of value (has.operand (ov.Parens e) of value (has.parens e of value h)) fit
parens_takes s _ _ _ _ (has.table_taking e es to of parts is at h fit) = has.table_taking (xv.Alone (ov.Parens e)) es to of parts (has.table_alone (ov.Parens e) es (has.table_in_parens e es is)) at h fit

-- ---- all forms

steps : Steps OfBounds OfBuiltin OfDimension OfElement OfExpr OfNamed OfOperand OfType
steps = record {
  bounds_from = λ e h s. subst (λ (w : BoundsView). BoundsRead s (bv.From e) (w.said s).bounds) (sym (views.bounds_from e)) (from_reads s e ((expr_view e).said s) (h.reads s));
  bounds_for = λ e h s. subst (λ (w : BoundsView). BoundsRead s (bv.For e) (w.said s).bounds) (sym (views.bounds_for e)) (for_reads s e ((expr_view e).said s) (h.reads s));
  bounds_from_for = λ e f h g s. subst (λ (w : BoundsView). BoundsRead s (bv.FromFor e f) (w.said s).bounds) (sym (views.bounds_from_for e f))
      (from_for_reads s e f ((expr_view e).said s) ((expr_view f).said s) (h.reads s) (g.reads s));
  builtin_primitive = λ w s. subst (λ (u : BuiltinView). Any (IsBuiltin s (uv.Primitive w)) (u s).found) (sym (views.builtin_primitive w)) (has.primitive w);
  builtin_timer = λ s. subst (λ (u : BuiltinView). Any (IsBuiltin s uv.Timer) (u s).found) (sym views.builtin_timer) has.timer;
  builtin_any_channel = λ w s. subst (λ (u : BuiltinView). Any (IsBuiltin s (uv.AnyChannel w)) (u s).found) (sym (views.builtin_any_channel w)) (has.any_channel w);
  builtin_channel = λ w ds b h s. subst (λ (u : BuiltinView). Any (IsBuiltin s (uv.Channel w ds b)) (u s).found) (sym (views.builtin_channel w ds b))
      (channel_any s w ds (each opening.Refused s (dimension_views ds)) b (all_spans s ds h));
  builtin_counted = λ w ds b es other h g s. subst (λ (u : BuiltinView). Any (IsBuiltin s (uv.Counted w ds b es other)) (u s).found) (sym (views.builtin_counted w ds b es other))
      (counted_any s w ds es b other (data_form s (each opening.Refused s (dimension_views ds)) b).found (data_form s (each opening.Refused s (dimension_views es)) other).found
      (data_any s ds (each opening.Refused s (dimension_views ds)) b (all_spans s ds h)) (data_any s es (each opening.Refused s (dimension_views es)) other (all_spans s es g)));
  dimension_open = λ s. subst (λ (w : DimensionView). Spans s dv.Open (w opening.Refused s).extent) (sym views.dimension_open) tt;
  dimension_sized = λ e h s. subst (λ (w : DimensionView). Spans s (dv.Sized e) (w opening.Refused s).extent) (sym (views.dimension_sized e)) (sized_spans s e ((expr_view e).said s) (h.reads s));
  element_named = λ n es h. subst (ElementReads (ev.Named n es)) (sym (views.element_named n es))
      (record { name = name_if_alone n es; reported = λ s. named_known s n es h; whole = λ s. whole_element_known s n es h });
  element_segment = λ e b es h g i. subst (ElementReads (ev.Segment e b es)) (sym (views.element_segment e b es))
      (record {
        name = tt;
        reported = λ s. segment_known s e b es ((element_view e).reported s) ((bounds_view b).said s) (h.reported s) (g s) i;
        whole = λ s. as_element s (ev.Segment e b es) _ (segment_known s e b es ((element_view e).reported s) ((bounds_view b).said s) (h.reported s) (g s) i);
      });
  expr_alone = λ e h. subst (ExprReads (xv.Alone e)) (sym (views.expr_alone e))
      (record { name = name_through e (operand_view e).name h.name; reads = h.whole });
  expr_run = λ operator a b es h g i. subst (ExprReads (xv.Run operator a b es)) (sym (views.expr_run operator a b es))
      (record { name = tt; reads = λ s. expr_single s (xv.Run operator a b es) _ _ (frees.run operator a b es) (run_means s operator a b es (h, (g, i))) });
  expr_pair = λ a operator b h g. subst (ExprReads (xv.Pair a operator b)) (sym (views.expr_pair a operator b))
      (record { name = tt; reads = λ s. expr_single s (xv.Pair a operator b) _ _ (frees.pair a operator b) (pair_means s a b operator h g) });
  expr_applied = λ operator e h. subst (ExprReads (xv.Applied operator e)) (sym (views.expr_applied operator e))
      (record {
        name = tt;
        reads = λ s. expr_single s (xv.Applied operator e) _ _ (frees.applied operator e) (applied_means s e operator (operand_view e).digits (judged ((operand_view e).said s).term) h.digits (h.part s));
      });
  expr_converted = λ ds b e h g i. subst (ExprReads (xv.Converted ds b e)) (sym (views.expr_converted ds b e))
      (record {
        name = tt;
        reads = λ s. expr_typed s (xv.Converted ds b e) _ (frees.converted ds b e)
            (conversion_known (array_over (each opening.Refused s (dimension_views ds)) (builtin_view b s)).found (Over s ds (IsBuiltin s b)) (is_free_operand e) (OperandAlone s e) (Takes s (xv.Alone e)) (Beside (OperandHasType s e)) (HasType s (xv.Converted ds b e)) (judged ((operand_view e).said s).term)
            (array_any s ds (each opening.Refused s (dimension_views ds)) (IsBuiltin s b) (builtin_view b s) (all_spans s ds h) (g s)) (i.part s)
            (λ of from inner value w j c k. has.converted ds b e w.0 of from inner value w.1 w.2 j c k));
      });
  expr_array_converted = λ d ds n e h g i. subst (ExprReads (xv.ArrayConverted d ds n e)) (sym (views.expr_array_converted d ds n e))
      (record {
        name = tt;
        reads = λ s. expr_typed s (xv.ArrayConverted d ds n e) _ (frees.array_converted d ds n e)
            (conversion_known (array_over_more (dimension_view d opening.Refused s) (each opening.Refused s (dimension_views ds)) (data_type n (visible s n))).found (Over s (d ∷ ds) (Names s n)) (is_free_operand e) (OperandAlone s e) (Takes s (xv.Alone e)) (Beside (OperandHasType s e)) (HasType s (xv.ArrayConverted d ds n e)) (judged ((operand_view e).said s).term)
            (array_more_any s d ds (dimension_view d opening.Refused s) (each opening.Refused s (dimension_views ds)) (Names s n) (data_type n (visible s n)) (h s) (all_spans s ds g) (named_any s n)) (i.part s)
            (λ of from inner value w j c k. has.array_converted d ds n e w.0 of from inner value w.1 w.2 j c k));
      });
  expr_named = λ n e h. subst (ExprReads (xv.Named n e)) (sym (views.expr_named n e))
      (record {
        name = tt;
        reads = λ s. expr_typed s (xv.Named n e) _ (frees.named_converted n e)
            (conversion_known (array_over [] (data_type n (visible s n))).found (Over s [] (Names s n)) (is_free_named e) (NamedAlone s e) AnyType (Beside (NamedHasType s e)) (HasType s (xv.Named n e)) (judged ((named_operand_view e).said s).term)
            (array_any s [] [] (Names s n) (data_type n (visible s n)) tt (named_any s n)) (h s) (λ of from inner value w j c k. has.named_converted n e w.0 of from inner value w.1 w.2 j c k));
      });
  expr_most = λ end ty h. subst (ExprReads (xv.Most end ty)) (sym (views.expr_most end ty))
      (record { name = tt; reads = λ s. expr_typed s (xv.Most end ty) _ (frees.most end ty) (most_reads s end ty h) });
  named_operand_element = λ e h. subst (NamedReads (nv.Element e)) (sym (views.named_operand_element e))
      (λ s. named_typed s (nv.Element e) _ (frees.named_element e)
      (knows_as (Element_of s e) (λ x. NamedHasType s (nv.Element e) x.of x.value) ((element_view e).reported s).kind (λ x g. has.named_element e x.of x.value g) (h.reported s)));
  named_operand_literal = λ lit. subst (NamedReads (nv.Literal lit)) (sym (views.named_operand_literal lit))
      (λ s. named_single s (nv.Literal lit) (literal lit).kind (is_integer lit) (frees.named_literal lit)
      (means_as (is_integer lit) (LiteralHasType lit) (NamedHasType s (nv.Literal lit)) (literal lit).kind (λ of value g. has.named_literal lit of value g) (literal_means lit)));
  named_operand_decorated = λ lit ty h. subst (NamedReads (nv.Decorated lit ty)) (sym (views.named_operand_decorated lit ty))
      (λ s. named_typed s (nv.Decorated lit ty) _ (frees.named_decorated lit ty)
      (typed_literal s lit ty (NamedHasType s (nv.Decorated lit ty)) h (λ to value w g. has.named_decorated lit ty to value w g)));
  named_operand_truth = λ b. subst (NamedReads (nv.Truth b)) (sym (views.named_operand_truth b))
      (λ s. named_typed s (nv.Truth b) _ (frees.named_truth b) (has.named_truth b));
  named_operand_table = λ e f es h g i. subst (NamedReads (nv.Table e f es)) (sym (views.named_operand_table e f es))
      (λ s. table_part s e (f ∷ es) (is_free_named (nv.Table e f es)) (NamedAlone s (nv.Table e f es)) AnyType (NamedHasType s (nv.Table e f es)) (frees.named_table e f es) (h, (g, i)) (λ of w. has.named_table e f es of w) (λ to of parts at w fit. tt));
  named_operand_decorated_table = λ e es ty h g i. subst (NamedReads (nv.DecoratedTable e es ty)) (sym (views.named_operand_decorated_table e es ty))
      (λ s. named_typed s (nv.DecoratedTable e es ty) _ (frees.named_decorated_table e es ty)
      (typed_table s e es ty (NamedHasType s (nv.DecoratedTable e es ty)) i (h, g) (λ to w j. has.named_decorated_table e es ty to w j)));
  named_operand_call = λ n es h. subst (NamedReads (nv.Call n es)) (sym (views.named_operand_call n es))
      (λ s. named_typed s (nv.Call n es) _ (frees.named_call n es)
      (knows_as (λ x. CallHasType s n es x.of x.value) (λ x. NamedHasType s (nv.Call n es) x.of x.value) (call s n (expr_views es)).kind (λ x g. has.named_call n es x.of x.value g) (call_known s n es h)));
  operand_element = λ e h. subst (OperandReads (ov.Element e)) (sym (views.operand_element e))
      (record {
        name = element_through e (element_view e).name h.name;
        digits = digits_at (ov.Element e) (Operand-F.Operand::Element e) (layers.operand_element e);
        part = λ s. operand_typed s (ov.Element e) _ (frees.element e)
            (knows_as (Element_of s e) (λ x. OperandHasType s (ov.Element e) x.of x.value) ((element_view e).reported s).kind (λ x g. has.element e x.of x.value g) (h.reported s));
        whole = λ s. expr_typed s (xv.Alone (ov.Element e)) _ (frees.alone (ov.Element e) ∙ frees.element e) (h.whole s);
      });
  operand_literal = λ lit. subst (OperandReads (ov.Literal lit)) (sym (views.operand_literal lit))
      (either (ov.Literal lit) _ refl (literal_digits lit ∙ digits_at (ov.Literal lit) (Operand-F.Operand::Literal lit) (layers.operand_literal lit)) (λ s. refl)
      (λ s. operand_single s (ov.Literal lit) (literal lit).kind (is_integer lit) (frees.literal lit)
      (means_as (is_integer lit) (LiteralHasType lit) (OperandHasType s (ov.Literal lit)) (literal lit).kind (λ of value g. has.literal lit of value g) (literal_means lit))));
  operand_decorated = λ lit ty h. subst (OperandReads (ov.Decorated lit ty)) (sym (views.operand_decorated lit ty))
      (either (ov.Decorated lit ty) _ refl (digits_at (ov.Decorated lit ty) (Operand-F.Operand::Decorated lit ty) (layers.operand_decorated lit ty)) (λ s. refl)
      (λ s. operand_typed s (ov.Decorated lit ty) _ (frees.decorated lit ty)
      (typed_literal s lit ty (OperandHasType s (ov.Decorated lit ty)) h (λ to value w g. has.decorated lit ty to value w g))));
  operand_truth = λ b. subst (OperandReads (ov.Truth b)) (sym (views.operand_truth b))
      (either (ov.Truth b) _ refl (digits_at (ov.Truth b) (Operand-F.Operand::Truth b) (layers.operand_truth b)) (λ s. refl) (λ s. operand_typed s (ov.Truth b) _ (frees.truth b) (has.truth b)));
  operand_parens = λ e h. subst (OperandReads (ov.Parens e)) (sym (views.operand_parens e))
      (either (ov.Parens e) _ refl (digits_at (ov.Parens e) (Operand-F.Parens e) (layers.operand_parens e)) (λ s. refl)
      (λ s. reads_free (is_free_operand (ov.Parens e)) (is_free e) (OperandAlone s (ov.Parens e)) (Takes s (xv.Alone (ov.Parens e))) (Beside (OperandHasType s (ov.Parens e))) (judged ((expr_view e).said s).term) (frees.parens e)
      (reads_as (is_free e) (StandsAlone s e) (OperandAlone s (ov.Parens e)) (Takes s e) (Takes s (xv.Alone (ov.Parens e))) (Beside (HasType s e)) (Beside (OperandHasType s (ov.Parens e))) (judged ((expr_view e).said s).term)
      (parens_alone s e) (parens_takes s e) (beside_as (HasType s e) (OperandHasType s (ov.Parens e)) (λ of value g. has.parens e of value g)) (h.reads s))));
  operand_table = λ e es h g. subst (OperandReads (ov.Table e es)) (sym (views.operand_table e es))
      (either (ov.Table e es) _ refl (digits_at (ov.Table e es) (Operand-F.Operand::Table e es) (layers.operand_table e es)) (λ s. refl)
      (λ s. table_part s e es (is_free_operand (ov.Table e es)) (OperandAlone s (ov.Table e es)) (Takes s (xv.Alone (ov.Table e es))) (OperandHasType s (ov.Table e es)) (frees.table e es) (h, g) (λ of w. has.operand_table (ov.Table e es) (e ∷ es) of (has.table_itself e es) w) (λ to of parts at w fit. has.table_taking (xv.Alone (ov.Table e es)) (e ∷ es) to of parts (has.table_alone (ov.Table e es) (e ∷ es) (has.table_itself e es)) at w fit)));
  operand_decorated_table = λ e es ty h g i. subst (OperandReads (ov.DecoratedTable e es ty)) (sym (views.operand_decorated_table e es ty))
      (either (ov.DecoratedTable e es ty) _ refl (digits_at (ov.DecoratedTable e es ty) (Operand-F.Operand::DecoratedTable e es ty) (layers.operand_decorated_table e es ty)) (λ s. refl)
      (λ s. operand_typed s (ov.DecoratedTable e es ty) _ (frees.decorated_table e es ty)
      (typed_table s e es ty (OperandHasType s (ov.DecoratedTable e es ty)) i (h, g) (λ to w j. has.decorated_table e es ty to w j))));
  operand_call = λ n es h. subst (OperandReads (ov.Call n es)) (sym (views.operand_call n es))
      (either (ov.Call n es) _ refl (digits_at (ov.Call n es) (Operand-F.Operand::Call n es) (layers.operand_call n es)) (λ s. refl)
      (λ s. operand_typed s (ov.Call n es) _ (frees.call n es)
      (knows_as (λ x. CallHasType s n es x.of x.value) (λ x. OperandHasType s (ov.Call n es) x.of x.value) (call s n (expr_views es)).kind (λ x g. has.call n es x.of x.value g) (call_known s n es h))));
  type_form_named = λ ds n h s. subst (λ (w : TypeFormView). Any (IsWritten s (tv.Named ds n)) (w opening.Refused s).found) (sym (views.type_form_named ds n))
      (any_as (Over s ds (Names s n)) (IsWritten s (tv.Named ds n)) (array_over (each opening.Refused s (dimension_views ds)) (data_type n (visible s n))).found (λ to w. has.named_type ds n w.0 to w.1 w.2)
      (array_any s ds (each opening.Refused s (dimension_views ds)) (Names s n) (data_type n (visible s n)) (all_spans s ds h) (named_any s n)));
  type_form_builtin = λ ds b h g s. subst (λ (w : TypeFormView). Any (IsWritten s (tv.Builtin ds b)) (w opening.Refused s).found) (sym (views.type_form_builtin ds b))
      (any_as (Over s ds (IsBuiltin s b)) (IsWritten s (tv.Builtin ds b)) (array_over (each opening.Refused s (dimension_views ds)) (builtin_view b s)).found (λ to w. has.builtin_type ds b w.0 to w.1 w.2)
      (array_any s ds (each opening.Refused s (dimension_views ds)) (IsBuiltin s b) (builtin_view b s) (all_spans s ds h) (g s)));
}

pub expr_reads : (e : Expr) → OfExpr e
expr_reads = every_expr steps

pub element_reads : (e : Element) → OfElement e
element_reads = every_element steps

pub type_reads : (ty : TypeForm) → OfType ty
type_reads = every_type_form steps

pub operand_digits : (e : Operand) → (operand_view e).digits ≡ digits_in e
operand_digits e = (every_operand steps e).digits
