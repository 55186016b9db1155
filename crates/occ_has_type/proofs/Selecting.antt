-- Elements: what the relation says of what is known of them.
use Rattle.std.proofs.Common.{◌≡◌, ◌||◌, ℕ, Bool, true, false, List, [], ◌∷◌, Option, Some, None, refl, sym, subst}
use Rattle.std.specs.List.{list_any}
use Rattle.std.specs.Prelude.{ℤ, pos}
use Rattle.occ_base.specs.declared.code.Code.TheVariants as code
use Rattle.occ_expr_operations.specs.Operations.{plain}
use Rattle.occ_expr_operations.specs.Parts.{ExprView, Said, SaidBounds, component, field_or_component, kind_of_whole, named, named_element, part, segment_element, segment_of, subscript, subscripts}
use Rattle.occ_expr_operations.specs.Views.{expr_view, expr_views}
use Rattle.occ_forms_expressions.proofs.Induction.{Every}
use Rattle.occ_forms_expressions.specs.declared.tree.Bounds.{Bounds}
use Rattle.occ_forms_expressions.specs.declared.tree.Bounds.TheVariants as bv
use Rattle.occ_forms_expressions.specs.declared.tree.Element.{Element}
use Rattle.occ_forms_expressions.specs.declared.tree.Element.TheVariants as ev
use Rattle.occ_forms_expressions.specs.declared.tree.Expr.{Expr}
use Rattle.occ_scope.specs.Lookup.{element}
use Rattle.occ_scope.specs.Visible.{visible}
use Rattle.occ_scope.specs.declared.meaning.Meaning.{Meaning}
use Rattle.occ_scope.specs.declared.meaning.Meaning.TheVariants as meaning
use Rattle.occ_scope.specs.declared.meaning.Whole.{Whole}
use Rattle.occ_scope.specs.declared.scope.Scope.{Scope}
use Rattle.occ_typing_operands.specs.Operators.{is_faulty}
use Rattle.occ_typing_operands.specs.Parts.{component_at, field_named, field_reported, is_constant_outside, subscripted_array}
use Rattle.occ_typing_operands.specs.Settling.{Finding, fault_of, int, known, settled, silent}
use Rattle.occ_typing_operands.specs.Wanting.{wanted}
use Rattle.occ_typing_operands.specs.declared.kind.Kind.{Kind}
use Rattle.occ_typing_operands.specs.declared.kind.Kind.TheVariants as k
use Rattle.occ_typing_operands.specs.declared.kind.Known.{Known}
use Rattle.occ_typing_tables.specs.Segments.{bound, constant_of, count_of, is_beyond, is_negative, no_segment, number_in, segment_in, taken, to_the_end}
use Rattle.occ_typing_tables.specs.Segments as segments
use Rattle.occ_typing_tables.specs.Terms.{judged, unless_faulty}
use Rattle.occ_typing_tables.specs.declared.selection.BoundTerms.{BoundTerms}
use Rattle.occ_typing_tables.specs.declared.selection.BoundTerms.TheVariants as bounds
use Rattle.occ_types.specs.Fits.{unnamed}
use Rattle.occ_types.specs.View.{as_array, fields_in, is_unknown}
use Rattle.occ_types.specs.declared.types.Field.{Field}
use Rattle.occ_types.specs.declared.types.OccType.{OccType}
use Rattle.occ_types.specs.declared.types.OccType.TheVariants as t
use Rattle.occ_types.specs.declared.value.Value.{Value}
use Rattle.occ_has_type.specs.Free.{is_free}
use Rattle.occ_has_type.specs.Trees.{name_alone}
use Rattle.occ_has_type.specs.Types.{ElementHasType, HasBounds, HasType, Selects, StandsAlone, Takes}
use Rattle.occ_has_type.specs.Types as has
use Rattle.occ_has_type.proofs.Calling.{mismatched_faulty}
use Rattle.occ_has_type.proofs.Means.{Fits, Knows, Means, chosen, knows_as, knows_otherwise, knows_unless, knows_wanted}
use Rattle.occ_has_type.proofs.Names.{IsNamed}
use Rattle.occ_has_type.proofs.Operating.{Beside, neither_true}
use Rattle.occ_has_type.proofs.Reading.{ItemReads, int_place, takes_int, under_reads}

pub record ExprReads (e : Expr) (v : ExprView) : Type 0 where
  pub name : IsNamed e name_alone v.name
  pub reads : (s : Scope) → ItemReads s e (judged (v.said s).term)

abbrev pub OfExpr : Expr → Type 0
OfExpr e = ExprReads e (expr_view e)

-- ---- subscripts

-- one subscript more
abbrev Step : Scope → Expr → Known → Known → Type 0
Step s e x y = (es : List Expr) (of : OccType) (value : Option Value) → Selects s es y.of y.value of value → Selects s (e ∷ es) x.of x.value of value

place_known : (s : Scope) (e : Expr) (x : Known) (parts : Option ℕ × OccType) (kind : Kind) → as_array (unnamed x.of) ≡ Some parts → Knows (Fits int (Beside (HasType s e))) kind → Knows (Step s e x) (component_at parts.0 parts.1 kind).kind
place_known s e x parts k.Faulty is h = tt
place_known s e x parts (k.Untyped f) is h = absurd h
place_known s e x parts (k.Known y) is h =
    knows_otherwise (Step s e x) (is_constant_outside parts.0 y.value) (record { faults = []; kind = known parts.1 None }) code.T6
    (λ inside es of value g. has.component e es x.of of x.value y.value value parts is (int_place s e y h) inside g)

knows_none : (Q : Known → Type 0) (kind : Kind) → kind ≡ k.Faulty → Knows Q kind
knows_none Q kind is = subst (Knows Q) (sym is) tt

array_step : (s : Scope) (e : Expr) (x : Known) (parts : Option (Option ℕ × OccType)) (index : Kind) → as_array (unnamed x.of) ≡ parts → Means (is_free e) (Beside (HasType s e)) index → Knows (Step s e x) (subscripted_array parts index).kind
array_step s e x None index is h = knows_none (Step s e x) (subscripted_array None index).kind (mismatched_faulty (settled int index).kind)
array_step s e x (Some parts) index is h = place_known s e x parts (wanted int index).kind is (knows_wanted int (is_free e) (Beside (HasType s e)) index h)

component_step : (s : Scope) (e : Expr) (x : Known) → OfExpr e → Knows (Step s e x) (component s x.of (expr_view e)).kind
unfolding component plain
component_step s e x h = array_step s e x (as_array (unnamed x.of)) ((judged ((expr_view e).said s).term).beside false).kind refl ((h.reads s).beside false)

field_if : (s : Scope) (e : Expr) (x : Known) (fields : List Field) (name : List ℕ) (found : Option OccType) → fields_in (unnamed x.of) ≡ Some fields → e ≡ name_alone name → field_named name fields ≡ found
    → Knows (Step s e x) (field_reported name found).kind
field_if s e x fields name None is at here = tt
field_if s e x fields name (Some of) is at here =
    knows_unless (Step s e x) (is_unknown of) (record { faults = []; kind = known of None })
    (λ there es to value g. subst (λ (z : Expr). Selects s (z ∷ es) x.of x.value to value) (sym at) (has.field name es x.of of to x.value value fields is here there g))

field_step : (s : Scope) (e : Expr) (x : Known) (fields : List Field) (name : Option (List ℕ)) → fields_in (unnamed x.of) ≡ Some fields → IsNamed e name_alone name → OfExpr e
    → Knows (Step s e x) (field_or_component s x.of fields (expr_view e) name).kind
field_step s e x fields None is at h = component_step s e x h
field_step s e x fields (Some name) is at h = field_if s e x fields name (field_named name fields) is at refl

part_step : (s : Scope) (e : Expr) (x : Known) (fields : Option (List Field)) → fields_in (unnamed x.of) ≡ fields → OfExpr e → Knows (Step s e x) (part s x.of fields (expr_view e)).kind
unfolding part
part_step s e x None is h = component_step s e x h
part_step s e x (Some fields) is h = field_step s e x fields (expr_view e).name is h.name h

one_step : (s : Scope) (e : Expr) (x : Known) → OfExpr e → Knows (Step s e x) (subscript s (expr_view e) (k.Known x)).kind
unfolding subscript
one_step s e x h = part_step s e x (fields_in (unnamed x.of)) refl h

faulty_after : (s : Scope) (es : List ExprView) → (subscripts s es k.Faulty).kind ≡ k.Faulty
unfolding subscript
faulty_after s [] = refl
faulty_after s (e ∷ es) = faulty_after s es

abbrev pub Selected : Scope → List Expr → Known → Known → Type 0
Selected s es x y = Selects s es x.of x.value y.of y.value

all_steps : (s : Scope) (es : List Expr) (x : Known) → Every OfExpr es → Knows (Selected s es x) (subscripts s (expr_views es) (k.Known x)).kind
all_steps s [] x h = has.whole x.of x.value
all_steps s (e ∷ es) x h = by (subscript s (expr_view e) (k.Known x)).kind (one_step s e x h.0) (λ y. all_steps s es y h.1) where
  by : (kind : Kind) → Knows (Step s e x) kind → ((y : Known) → Knows (Selected s es y) (subscripts s (expr_views es) (k.Known y)).kind) → Knows (Selected s (e ∷ es) x) (subscripts s (expr_views es) kind).kind
  by k.Faulty g below = knows_none (Selected s (e ∷ es) x) (subscripts s (expr_views es) k.Faulty).kind (faulty_after s (expr_views es))
  by (k.Untyped f) g below = absurd g
  by (k.Known y) g below = knows_as (Selected s es y) (Selected s (e ∷ es) x) (subscripts s (expr_views es) (k.Known y)).kind (λ z i. g es z.of z.value i) (below y)

-- after a part that is perhaps known
pub then_steps : (s : Scope) (es : List Expr) (P Q : Known → Type 0) (kind : Kind) → Knows P kind → ((x y : Known) → P x → Selected s es x y → Q y) → Every OfExpr es → Knows Q (subscripts s (expr_views es) kind).kind
then_steps s es P Q k.Faulty h make g = knows_none Q (subscripts s (expr_views es) k.Faulty).kind (faulty_after s (expr_views es))
then_steps s es P Q (k.Untyped f) h make g = absurd h
then_steps s es P Q (k.Known x) h make g = knows_as (Selected s es x) Q (subscripts s (expr_views es) (k.Known x)).kind (λ y i. make x y h i) (all_steps s es x g)

-- ---- names

abbrev IsWhole : Scope → List ℕ → Known → Type 0
IsWhole s name x = (w : Whole) × (visible s name ≡ Some (meaning.Element w)) × (x.of ≡ w.of) × (x.value ≡ w.value)

whole_known : (s : Scope) (name : List ℕ) (m : Option Meaning) → visible s name ≡ m → Knows (IsWhole s name) (kind_of_whole (element name m).found)
whole_known s name None is = tt
whole_known s name (Some meaning.Faulty) is = tt
whole_known s name (Some (meaning.Type to)) is = tt
whole_known s name (Some (meaning.Protocol c)) is = tt
whole_known s name (Some (meaning.Procedure fs)) is = tt
whole_known s name (Some (meaning.Function fs results)) is = tt
whole_known s name (Some (meaning.Element w)) is = (w, is, refl, refl)

abbrev pub Element_of : Scope → Element → Known → Type 0
Element_of s e x = ElementHasType s e x.of x.value

pub named_known : (s : Scope) (name : List ℕ) (es : List Expr) → Every OfExpr es → Knows (Element_of s (ev.Named name es)) (named_element s name (expr_views es)).kind
unfolding named_element
named_known s name es h =
    then_steps s es (IsWhole s name) (Element_of s (ev.Named name es)) (named (element name (visible s name))).kind (whole_known s name (visible s name) refl)
    (λ x y w g. has.named name es w.0 y.of y.value w.1
    (subst (λ (of : OccType). Selects s es of w.0.value y.of y.value) w.2 (subst (λ (v : Option Value). Selects s es x.of v y.of y.value) w.3 g))) h

-- ---- segments

-- what is known of a segment without the subscripts after it
abbrev Segment : Scope → Option ℕ → OccType → Bounds → Known → Type 0
Segment s n of b x = (from : Option ℤ) × (count : Option ℤ) × HasBounds s n b from count × (is_negative count ≡ false) × (is_beyond n from count ≡ false) × (x.of ≡ t.Array (count_of count) of) × (x.value ≡ None)

taken_known : (s : Scope) (n : Option ℕ) (of : OccType) (b : Bounds) (from count : Option ℤ) → HasBounds s n b from count → Knows (Segment s n of b) (taken n of from count).kind
taken_known s n of b from count h =
    knows_otherwise (Segment s n of b) (is_negative count || is_beyond n from count) (record { faults = []; kind = known (t.Array (count_of count) of) None }) code.T6
    (λ fine. let both = neither_true (is_negative count) (is_beyond n from count) fine in (from, count, h, both.0, both.1, refl, refl))

-- the bounds, each an INT
abbrev IsBound : Scope → Expr → Kind → Type 0
IsBound s e kind = Knows (λ x. Takes s e int x.of x.value) kind

one_bound : (s : Scope) (n : Option ℕ) (of : OccType) (b : Bounds) (e : Expr) (kind : Kind) (from count : Option ℤ → Option ℤ) → IsBound s e kind
    → ((value : Option Value) → HasType s e int value → HasBounds s n b (from (number_in value)) (count (number_in value)))
    → Knows (Segment s n of b) (unless_faulty (kind ∷ []) (taken n of (from (constant_of kind)) (count (constant_of kind)))).kind
one_bound s n of b e k.Faulty from count h make = tt
one_bound s n of b e (k.Untyped f) from count h make = absurd h
one_bound s n of b e (k.Known x) from count h make = taken_known s n of b (from (number_in x.value)) (count (number_in x.value)) (make x.value (takes_int s e x.of x.value h))

two_bounds : (s : Scope) (n : Option ℕ) (of : OccType) (e f : Expr) (base count : Kind) → IsBound s e base → IsBound s f count
    → Knows (Segment s n of (bv.FromFor e f)) (unless_faulty (base ∷ count ∷ []) (taken n of (constant_of base) (constant_of count))).kind
two_bounds s n of e f k.Faulty count h g = tt
two_bounds s n of e f (k.Untyped u) count h g = absurd h
two_bounds s n of e f (k.Known x) k.Faulty h g = tt
two_bounds s n of e f (k.Known x) (k.Untyped u) h g = absurd g
two_bounds s n of e f (k.Known x) (k.Known y) h g = taken_known s n of (bv.FromFor e f) (number_in x.value) (number_in y.value) (has.from_so_many n e f x.value y.value (takes_int s e x.of x.value h) (takes_int s f y.of y.value g))

bound_of : (s : Scope) (e : Expr) (x : Said) → ItemReads s e (judged x.term) → IsBound s e (bound (judged x.term)).kind
bound_of s e x h = under_reads (is_free e) (StandsAlone s e) (Takes s e) (Beside (HasType s e)) x.term int h

-- these bounds, in any array
abbrev pub BoundsRead : Scope → Bounds → BoundTerms → Type 0
BoundsRead s b terms = (n : Option ℕ) (of : OccType) → Knows (Segment s n of b) (segments.segment_within n of terms).kind

pub from_reads : (s : Scope) (e : Expr) (x : Said) → ItemReads s e (judged x.term) → BoundsRead s (bv.From e) (bounds.From x.term)
from_reads s e x h n of = one_bound s n of (bv.From e) e (bound (judged x.term)).kind (λ i. i) (to_the_end n) (bound_of s e x h) (λ value g. has.from n e value g)

pub for_reads : (s : Scope) (e : Expr) (x : Said) → ItemReads s e (judged x.term) → BoundsRead s (bv.For e) (bounds.For x.term)
for_reads s e x h n of = one_bound s n of (bv.For e) e (bound (judged x.term)).kind (λ i. Some (pos 0)) (λ i. i) (bound_of s e x h) (λ value g. has.so_many n e value g)

pub from_for_reads : (s : Scope) (e f : Expr) (x y : Said) → ItemReads s e (judged x.term) → ItemReads s f (judged y.term) → BoundsRead s (bv.FromFor e f) (bounds.FromFor x.term y.term)
from_for_reads s e f x y h g n of = two_bounds s n of e f (bound (judged x.term)).kind (bound (judged y.term)).kind (bound_of s e x h) (bound_of s f y g)

-- of what is an array, and of nothing else
abbrev SegmentOf : Scope → OccType → Bounds → Known → Type 0
SegmentOf s whole b x = (parts : Option ℕ × OccType) × (as_array (unnamed whole) ≡ Some parts) × Segment s parts.0 parts.1 b x

faulty_if : (b : Bool) → (chosen b silent (fault_of code.T2)).kind ≡ k.Faulty
faulty_if true = refl
faulty_if false = refl

none_taken : (b : BoundTerms) → (no_segment b).kind ≡ k.Faulty
none_taken (bounds.From x) = faulty_if (list_any is_faulty ((bound (judged x)).kind ∷ []))
none_taken (bounds.For x) = faulty_if (list_any is_faulty ((bound (judged x)).kind ∷ []))
none_taken (bounds.FromFor x y) = faulty_if (list_any is_faulty ((bound (judged x)).kind ∷ (bound (judged y)).kind ∷ []))

in_known : (s : Scope) (whole : OccType) (b : Bounds) (terms : BoundTerms) (parts : Option (Option ℕ × OccType)) → as_array (unnamed whole) ≡ parts → BoundsRead s b terms → Knows (SegmentOf s whole b) (segment_in parts terms).kind
in_known s whole b terms None is h = knows_none (SegmentOf s whole b) (segment_in None terms).kind (none_taken terms)
in_known s whole b terms (Some parts) is h =
    knows_as (Segment s parts.0 parts.1 b) (SegmentOf s whole b) (segment_in (Some parts) terms).kind (λ x g. (parts, is, g)) (h parts.0 parts.1)

abbrev ThenSegment : Scope → Element → Bounds → Known → Type 0
ThenSegment s e b x = (whole : Known) × Element_of s e whole × SegmentOf s whole.of b x

of_known : (s : Scope) (e : Element) (b : Bounds) (terms : BoundTerms) (kind : Kind) → Knows (Element_of s e) kind → BoundsRead s b terms → Knows (ThenSegment s e b) (segment_of kind terms).kind
unfolding segment_of
of_known s e b terms k.Faulty h g = tt
of_known s e b terms (k.Untyped f) h g = absurd h
of_known s e b terms (k.Known x) h g =
    knows_as (SegmentOf s x.of b) (ThenSegment s e b) (segment_in (as_array (unnamed x.of)) terms).kind (λ y i. (x, h, i)) (in_known s x.of b terms (as_array (unnamed x.of)) refl g)

pub segment_known : (s : Scope) (e : Element) (b : Bounds) (es : List Expr) (x : Finding) (y : SaidBounds) → Knows (Element_of s e) x.kind → BoundsRead s b y.bounds → Every OfExpr es
    → Knows (Element_of s (ev.Segment e b es)) (segment_element s x y (expr_views es)).kind
segment_known s e b es x y h g i =
    then_steps s es (ThenSegment s e b) (Element_of s (ev.Segment e b es)) (segment_of x.kind y.bounds).kind (of_known s e b y.bounds x.kind h g)
    (λ z u w j.
    let seg = w.2.2 in
    let from_array : Selects s es (t.Array (count_of seg.1) w.2.0.1) None u.of u.value
    = subst (λ (of : OccType). Selects s es of None u.of u.value) seg.5 (subst (λ (v : Option Value). Selects s es z.of v u.of u.value) seg.6 j) in
    has.segment e b es w.0.of u.of w.0.value u.value w.2.0 seg.0 seg.1 w.1 w.2.1 seg.2 seg.3 seg.4 from_array) i
