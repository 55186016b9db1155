-- Elements, tables with their type, calls and written types whose parts have types: nothing is reported of them.
use Rattle.std.proofs.Common.{◌≡◌, ◌∙◌, ◌++◌, ◌||◌, ℕ, Bool, true, false, List, [], ◌∷◌, length, Option, Some, None, if◌then◌else◌, refl, ap, sym, subst, arith}
use Rattle.std.specs.List.{list_any}
use Rattle.std.specs.Prelude.{◌==◌, ℤ, nat_le, pos}
use Rattle.occ_base.specs.Reporting.{nameless}
use Rattle.occ_base.specs.declared.code.Code.TheVariants as code
use Rattle.occ_expr_operations.specs.Literals.{byte, decorated_kind, decorated_literal, literal}
use Rattle.occ_expr_operations.specs.Operations.{extreme_of, limit_of, plain}
use Rattle.occ_expr_operations.specs.Parts.{ExprView, Said, component, field_or_component, function_call, one_result, own_faults, part, segment_of, subscript, terms}
use Rattle.occ_expr_operations.specs.Written.{Spanning, Written, all_spanning_faults, array_after, array_over, extents, limited, spanned, spanned_by}
use Rattle.occ_expr_operations.specs.declared.written.Extent.{Extent}
use Rattle.occ_expr_operations.specs.declared.written.Extent.TheVariants as extent
use Rattle.occ_forms_expressions.specs.declared.tree.Expr.{Expr}
use Rattle.occ_forms_expressions.specs.declared.tree.Extreme.{Extreme}
use Rattle.occ_forms_expressions.specs.declared.tree.Literal.{Literal}
use Rattle.occ_scope.specs.declared.scope.Scope.{Scope}
use Rattle.occ_typing_operands.specs.Operators.{all_faults, is_faulty, kinds, value_outcome}
use Rattle.occ_typing_operands.specs.Outcomes.{decimal, fitting, hexadecimal}
use Rattle.occ_typing_operands.specs.Parts.{component_at, field_named, field_reported, is_constant_outside, subscripted, subscripted_array}
use Rattle.occ_typing_operands.specs.Settling.{Finding, fault_of, int, known, number, silent}
use Rattle.occ_typing_operands.specs.Wanting.{wanted}
use Rattle.occ_typing_operands.specs.declared.kind.Kind.{Kind}
use Rattle.occ_typing_operands.specs.declared.kind.Kind.TheVariants as k
use Rattle.occ_typing_rules.specs.Calling.{Matched, as_many, each_for, matched}
use Rattle.occ_typing_tables.specs.Decorating.{decorated_table, field_value, field_values, of_another_number, of_components, of_count, of_fields, of_values, whole}
use Rattle.occ_typing_tables.specs.Dimensions.{Size, size, size_of_kind, size_of_number}
use Rattle.occ_typing_tables.specs.Extents.{arrayed, is_too_large}
use Rattle.occ_typing_tables.specs.Measuring.{most_of, size_of_array, size_outcome, sized}
use Rattle.occ_typing_tables.specs.Segments.{constant_of, count_of, for_count, from_base, from_for, is_beyond, is_negative, number_in, segment_in, taken, to_the_end}
use Rattle.occ_typing_tables.specs.Segments as segments
use Rattle.occ_typing_tables.specs.Terms.{Judged, and_then, each_under, judged, judged_all, so_many, table_type, with_items}
use Rattle.occ_typing_tables.specs.declared.selection.BoundTerms.{BoundTerms}
use Rattle.occ_typing_tables.specs.declared.term.Term.{Term}
use Rattle.occ_typing_tables.specs.declared.term.Term.TheVariants as v
use Rattle.occ_typing_tables.proofs.Judging.{judged_single}
use Rattle.occ_types.specs.Constant.{number_of, number_value, pattern_value, value_of}
use Rattle.occ_types.specs.Fits.{alike, counts_fit, fits, is_data, unnamed}
use Rattle.occ_types.specs.View.{as_array, fields_in, is_unknown, second}
use Rattle.occ_types.specs.declared.interface.Formal.{Formal}
use Rattle.occ_types.specs.declared.types.Field.{Field}
use Rattle.occ_types.specs.declared.types.OccType.{OccType}
use Rattle.occ_types.specs.declared.types.OccType.TheVariants as t
use Rattle.occ_types.specs.declared.value.Primitive.{Primitive}
use Rattle.occ_types.specs.declared.value.Primitive.TheVariants as p
use Rattle.occ_types.specs.declared.value.Value.{Value}
use Rattle.occ_types.proofs.Agreeing.{as_record_at_array}
use Rattle.occ_has_type.specs.Free.{is_integer}
use Rattle.occ_has_type.specs.Trees.{end_of}
use Rattle.occ_has_type.specs.Types.{DecoratedHasType, IsArray, IsNumber, LiteralHasType, arrays}
use Rattle.occ_has_type.specs.Types as has
use Rattle.occ_has_type.specs.Values.{IsCount}
use Rattle.occ_has_type.proofs.Combining.{integer_comes}
use Rattle.occ_has_type.proofs.Finding.{Comes, Finds, after_finds, both_clean, false_finds, landed_finds, then_finds, true_finds, wanted_finds}
use Rattle.occ_has_type.proofs.Fitting.{array_is, number_fits}
use Rattle.occ_has_type.proofs.Literals.{ends, int_base}
use Rattle.occ_has_type.proofs.Means.{chosen}
use Rattle.occ_has_type.proofs.Taking.{AllDone, each_fitted, items_finds}

pub int_fits : fits int int ≡ true
int_fits = number_fits int p.Int (ap number int_base)

-- ---- literals

pub literal_comes : (lit : Literal) (of : OccType) (value : Option Value) → LiteralHasType lit of value → ((literal lit).faults ≡ []) × Comes (is_integer lit) of value (literal lit).kind
unfolding literal
literal_comes _ _ _ (has.decimal i of base value n is) = (refl, integer_comes (decimal (pos i)) false (λ x. fitting (number_value x (pos i))) of base value refl refl n (ap fitting is))
literal_comes _ _ _ (has.hexadecimal i of base value n is) = (refl, integer_comes (hexadecimal i) false (λ x. fitting (pattern_value x i)) of base value refl refl n (ap fitting is))
literal_comes _ _ _ (has.character b) = (refl, (refl, refl))
literal_comes _ _ _ (has.string bytes h) =
    let n = length bytes in
    let array = t.Array (Some n) byte in
    let there : Finds array None (table_type n (Some byte))
    = true_finds (is_data byte) (so_many n byte) (fault_of code.T2) array None h.data_inside
    (true_finds (nat_le n 4294967295) (arrayed (Some n) byte) (fault_of code.T9) array None h.counted
    (false_finds (is_too_large array) (fault_of code.T9) (record { faults = []; kind = known array None }) array None h.small (refl, refl))) in
    (there.0, subst (Comes false array None) (sym there.1) (refl, refl))

kind_decorates : (lit : Literal) (to of : OccType) (value : Option Value) (kind : Kind) → is_integer lit ≡ false → Comes (is_integer lit) of value kind → alike to of ≡ true → Finds to value (decorated_kind to kind)
kind_decorates lit to of value k.Faulty is h same = absurd h
kind_decorates lit to of value (k.Untyped f) is h same = absurd cc (h.0, is)
kind_decorates lit to of value (k.Known x) is h same =
    subst (λ (z : Kind). Finds to value (decorated_kind to z)) (sym h.1) (true_finds (alike to of) (record { faults = []; kind = known to value }) (fault_of code.T2) to value same (refl, refl))

kind_takes : (lit : Literal) (to : OccType) (value : Option Value) (kind : Kind) → is_integer lit ≡ true → Comes (is_integer lit) to value kind → fits to to ≡ true → Finds to value (decorated_kind to kind)
kind_takes lit to value k.Faulty is h fit = absurd h
kind_takes lit to value (k.Untyped f) is h fit = wanted_finds (is_integer lit) to to value (k.Untyped f) h fit
kind_takes lit to value (k.Known x) is h fit = absurd cc (h.0, is)

integer_base : (lit : Literal) (to : OccType) (value : Option Value) → is_integer lit ≡ true → LiteralHasType lit to value → fits to to ≡ true
integer_base _ _ _ is (has.decimal i of base value n at) = number_fits of base n
integer_base _ _ _ is (has.hexadecimal i of base value n at) = number_fits of base n
integer_base _ _ _ is (has.character b) = absurd cc
integer_base _ _ _ is (has.string bytes h) = absurd cc

pub decorated_finds : (lit : Literal) (to : OccType) (value : Option Value) → DecoratedHasType lit to value → Finds to value (decorated_literal (Some to) lit)
unfolding decorated_literal
decorated_finds _ _ _ (has.integer lit to value is h) =
    let x = literal_comes lit to value h in
    let y = kind_takes lit to value (literal lit).kind is x.1 (integer_base lit to value is h) in
    (both_clean (literal lit).faults (decorated_kind to (literal lit).kind).faults x.0 y.0, y.1)
decorated_finds _ _ _ (has.text lit to of value is h same) =
    let x = literal_comes lit of value h in
    let y = kind_decorates lit to of value (literal lit).kind is x.1 same in
    (both_clean (literal lit).faults (decorated_kind to (literal lit).kind).faults x.0 y.0, y.1)

pub most_finds : (e : Extreme) (to : OccType) (base : Primitive) → IsNumber to base → Finds to (Some (value_of base (end_of e base))) (extreme_of e (Some to))
unfolding extreme_of
most_finds e to base n = subst (λ (o : Option Primitive). Finds to (Some (value_of base (end_of e base))) (most_of (limit_of e) to o)) (sym n) (refl, ap (λ (z : Value). known to (Some z)) (ends e base))

-- ---- SIZE

count_comes : (n : Option ℕ) (value : Option Value) → IsCount n value → size_outcome n ≡ value_outcome value
count_comes None value h = sym (ap value_outcome h)
count_comes (Some n) value h = ap fitting h.1 ∙ sym (ap value_outcome h.2)

pub size_finds : (of : OccType) (inner value : Option Value) (parts : Option ℕ × OccType) → as_array (unnamed of) ≡ Some parts → IsCount parts.0 value → Finds int value (sized (known of inner))
size_finds of inner value parts is h =
    subst (λ (o : Option (Option ℕ × OccType)). Finds int value (size_of_array o)) (sym is) (landed_finds int (size_outcome parts.0) value (count_comes parts.0 value h))

-- ---- subscripts

-- an expression that is no table, as it is said
pub record Says (free : Bool) (of : OccType) (value : Option Value) (x : Said) : Type 0 where
  pub clean : x.faults ≡ []
  pub kind : Kind
  pub is : x.term ≡ v.Single kind
  pub comes : Comes free of value kind

-- by itself, beside no fault
pub plain_is : (free : Bool) (of : OccType) (value : Option Value) (x : Said) → (h : Says free of value x) → plain (judged x.term) ≡ record { faults = []; kind = h.kind }
unfolding plain
plain_is free of value x h = ap (λ (z : Term). (judged z).beside false) h.is ∙ ap (λ (j : Judged). j.beside false) (judged_single h.kind)

pub then_plain : (free : Bool) (of to : OccType) (value other : Option Value) (x : Said) (next : Kind → Finding) → (h : Says free of value x) → Finds to other (next h.kind) → Finds to other (and_then (plain (judged x.term)) next)
then_plain free of to value other x next h g = subst (λ (z : Finding). Finds to other (and_then z next)) (sym (plain_is free of value x h)) g

array_fields : (of : OccType) (parts : Option ℕ × OccType) → as_array of ≡ Some parts → fields_in of ≡ None
array_fields of parts is = ap fields_in (array_is of parts is) ∙ ap second (as_record_at_array parts.0 parts.1)

index_finds : (free : Bool) (parts : Option ℕ × OccType) (place : Option Value) (kind : Kind) (array : Option (Option ℕ × OccType)) → array ≡ Some parts → Comes free int place kind → is_constant_outside parts.0 place ≡ false
    → Finds parts.1 None (subscripted_array array kind)
index_finds free parts place kind array is h inside =
    subst (λ (o : Option (Option ℕ × OccType)). Finds parts.1 None (subscripted_array o kind)) (sym is)
    (then_finds (wanted int kind) (component_at parts.0 parts.1) int parts.1 place None (wanted_finds free int int place kind h int_fits)
    (false_finds (is_constant_outside parts.0 place) (fault_of code.T6) (record { faults = []; kind = known parts.1 None }) parts.1 None inside (refl, refl)))

pub component_finds : (s : Scope) (e : ExprView) (from : OccType) (inner place : Option Value) (free : Bool) (parts : Option ℕ × OccType) → as_array (unnamed from) ≡ Some parts → Says free int place (e.said s) → is_constant_outside parts.0 place ≡ false
    → Finds parts.1 None (subscript s e (known from inner))
unfolding subscript part component
component_finds s e from inner place free parts is h inside =
    subst (λ (o : Option (List Field)). Finds parts.1 None (part s from o e)) (sym (array_fields (unnamed from) parts is))
    (after_finds (e.said s).faults (and_then (plain (judged (e.said s).term)) (subscripted from)) parts.1 None h.clean
    (then_plain free int parts.1 place None (e.said s) (subscripted from) h (index_finds free parts place h.kind (as_array (unnamed from)) is h.comes inside)))

pub field_finds : (s : Scope) (e : ExprView) (from found : OccType) (inner : Option Value) (name : List ℕ) (fields : List Field) → e.name ≡ Some name → fields_in (unnamed from) ≡ Some fields → field_named name fields ≡ Some found → is_unknown found ≡ false
    → Finds found None (subscript s e (known from inner))
unfolding subscript part
field_finds s e from found inner name fields at is here known_field =
    subst (λ (o : Option (List Field)). Finds found None (part s from o e)) (sym is)
    (subst (λ (o : Option (List ℕ)). Finds found None (field_or_component s from fields e o)) (sym at)
    (subst (λ (o : Option OccType). Finds found None (field_reported name o)) (sym here)
    (false_finds (is_unknown found) silent (record { faults = []; kind = known found None }) found None known_field (refl, refl))))

-- ---- segments

taken_finds : (n : Option ℕ) (of : OccType) (from count : Option ℤ) → is_negative count ≡ false → is_beyond n from count ≡ false → Finds (t.Array (count_of count) of) None (taken n of from count)
taken_finds n of from count a b =
    false_finds (is_negative count || is_beyond n from count) (fault_of code.T6) (record { faults = []; kind = known (t.Array (count_of count) of) None }) (t.Array (count_of count) of) None
    (ap (λ (c : Bool). c || is_beyond n from count) a ∙ b) (refl, refl)

one_bound : (n : Option ℕ) (of : OccType) (value : Option Value) (x : Finding) (from count : Option ℤ → Option ℤ) → Finds int value x → is_negative (count (number_in value)) ≡ false → is_beyond n (from (number_in value)) (count (number_in value)) ≡ false
    → Finds (t.Array (count_of (count (number_in value))) of) None (with_items (x ∷ []) (taken n of (from (constant_of x.kind)) (count (constant_of x.kind))))
one_bound n of value x from count h a b =
    let array = t.Array (count_of (count (number_in value))) of in
    let there : Finds array None (taken n of (from (constant_of x.kind)) (count (constant_of x.kind)))
    = subst (λ (z : Kind). Finds array None (taken n of (from (constant_of z)) (count (constant_of z)))) (sym h.1) (taken_finds n of (from (number_in value)) (count (number_in value)) a b) in
    items_finds (x ∷ []) (taken n of (from (constant_of x.kind)) (count (constant_of x.kind))) array None (both_clean x.faults [] h.0 refl) (ap (λ (z : Kind). is_faulty z || false) h.1) there

pub from_finds : (n : Option ℕ) (of : OccType) (value : Option Value) (x : Finding) → Finds int value x → is_negative (to_the_end n (number_in value)) ≡ false → is_beyond n (number_in value) (to_the_end n (number_in value)) ≡ false
    → Finds (t.Array (count_of (to_the_end n (number_in value))) of) None (from_base n of x)
from_finds n of value x h a b = one_bound n of value x (λ i. i) (to_the_end n) h a b

pub for_finds : (n : Option ℕ) (of : OccType) (value : Option Value) (x : Finding) → Finds int value x → is_negative (number_in value) ≡ false → is_beyond n (Some (pos 0)) (number_in value) ≡ false
    → Finds (t.Array (count_of (number_in value)) of) None (for_count n of x)
for_finds n of value x h a b = one_bound n of value x (λ i. Some (pos 0)) (λ i. i) h a b

pub from_for_finds : (n : Option ℕ) (of : OccType) (value count : Option Value) (x y : Finding) → Finds int value x → Finds int count y → is_negative (number_in count) ≡ false → is_beyond n (number_in value) (number_in count) ≡ false
    → Finds (t.Array (count_of (number_in count)) of) None (from_for n of x y)
from_for_finds n of value count x y h g a b =
    let array = t.Array (count_of (number_in count)) of in
    let there : Finds array None (taken n of (constant_of x.kind) (constant_of y.kind))
    = subst (λ (z : Kind). Finds array None (taken n of (constant_of z) (constant_of y.kind))) (sym h.1)
    (subst (λ (z : Kind). Finds array None (taken n of (number_in value) (constant_of z))) (sym g.1) (taken_finds n of (number_in value) (number_in count) a b)) in
    items_finds (x ∷ y ∷ []) (taken n of (constant_of x.kind) (constant_of y.kind)) array None (both_clean x.faults (y.faults ++ []) h.0 (both_clean y.faults [] g.0 refl))
    (ap (λ (z : Kind). is_faulty z || (is_faulty y.kind || false)) h.1 ∙ ap (λ (z : Kind). is_faulty z || false) g.1) there

pub segment_finds : (whole of : OccType) (inner : Option Value) (parts : Option ℕ × OccType) (b : BoundTerms) → as_array (unnamed whole) ≡ Some parts → Finds of None (segments.segment_within parts.0 parts.1 b) → Finds of None (segment_of (known whole inner) b)
unfolding segment_of
segment_finds whole of inner parts b is h = subst (λ (o : Option (Option ℕ × OccType)). Finds of None (segment_in o b)) (sym is) h

-- ---- tables with their type

pub same_count : (m n : ℕ) → m ≡ n → (m == n) ≡ true
same_count m n e = grind (arith, e)

pub components_find : (to : OccType) (parts : Option ℕ × OccType) (es : List Expr) (types : List OccType) (js : List Judged) → as_array (unnamed to) ≡ Some parts → AllDone parts.1 es types js → counts_fit parts.0 (Some (length es)) ≡ true
    → Finds to None (decorated_table to js)
components_find to parts es types js is h count =
    let ys = each_under true parts.1 js in
    let g = each_fitted true parts.1 es types js h in
    subst (λ (o : Option (Option ℕ × OccType)). Finds to None (of_components to o js)) (sym is)
    (items_finds ys (of_count to parts.0 (length (kinds ys))) to None g.clean g.sound
    (true_finds (counts_fit parts.0 (Some (length (kinds ys)))) (whole to) (fault_of code.T2) to None (ap (λ (n : ℕ). counts_fit parts.0 (Some n)) g.many ∙ count) (refl, refl)))

pub values_find : (to : OccType) (fs : List Field) (js : List Judged) → as_array (unnamed to) ≡ None → fields_in (unnamed to) ≡ Some fs → length fs ≡ length js → all_faults (field_values fs js) ≡ [] → list_any is_faulty (kinds (field_values fs js)) ≡ false
    → Finds to None (decorated_table to js)
values_find to fs js none is many clean sound =
    subst (λ (o : Option (Option ℕ × OccType)). Finds to None (of_components to o js)) (sym none)
    (subst (λ (o : Option (List Field)). Finds to None (of_fields to o js)) (sym is)
    (true_finds (length fs == length js) (of_values to fs js) (of_another_number js) to None (same_count (length fs) (length js) many) (items_finds (field_values fs js) (whole to) to None clean sound (refl, refl))))

pub one_field_finds : (f : Field) (j : Judged) (of : OccType) (value : Option Value) → is_unknown f.of ≡ false → Finds of value (j.under f.of) → Finds of value (field_value f j)
one_field_finds f j of value is h = false_finds (is_unknown f.of) (record { faults = j.hidden.faults; kind = k.Faulty }) (j.under f.of) of value is h

-- ---- calls

abbrev matched_if : Bool → Matched → Matched → Matched
matched_if b x y = if b then x else y

if_matched : (b : Bool) (x y : Matched) → b ≡ true → matched_if b x y ≡ x
if_matched true x y is = refl
if_matched false x y is = absurd cc

result_if : (of : OccType) (b : Bool) → b ≡ false → Finds of None (chosen b silent (one_result (of ∷ [])))
result_if of b is = false_finds b silent (one_result (of ∷ [])) of None is (refl, refl)

pub function_finds : (formals : List Formal) (of : OccType) (xs : List Said) → own_faults xs ≡ [] → length formals ≡ length (judged_all (terms xs)) → all_faults (each_for formals (judged_all (terms xs))) ≡ []
    → list_any is_faulty (kinds (each_for formals (judged_all (terms xs)))) ≡ false → Finds of None (function_call formals (of ∷ []) xs)
unfolding function_call
function_finds formals of xs own many clean sound =
    let js = judged_all (terms xs) in
    let is : matched formals js ≡ as_many (each_for formals js) = if_matched (length formals == length js) (as_many (each_for formals js)) _ (same_count (length formals) (length js) many) in
    let faults : (matched formals js).faults ≡ [] = ap (λ (x : Matched). x.faults) is ∙ clean in
    let fine : (matched formals js).is_faulty ≡ false = ap (λ (x : Matched). x.is_faulty) is ∙ sound in
    let y = result_if of (matched formals js).is_faulty fine in
    (both_clean (own_faults xs ++ (matched formals js).faults) (chosen (matched formals js).is_faulty silent (one_result (of ∷ []))).faults (both_clean (own_faults xs) (matched formals js).faults own faults) y.0, y.1)

-- ---- written types

-- nothing is reported of it, and this is found
abbrev pub Writes : OccType → Written → Type 0
Writes of x = (x.faults ≡ []) × (x.found ≡ Some of)

abbrev pub sized_extents : List ℕ → List Extent
sized_extents [] = []
sized_extents (n ∷ ns) = extent.Sized n ∷ sized_extents ns

spanned_arrays : (ns : List ℕ) (of : OccType) → spanned_by (sized_extents ns) (Some of) ≡ Some (arrays ns of)
spanned_arrays [] of = refl
spanned_arrays (n ∷ ns) of = ap (spanned (extent.Sized n)) (spanned_arrays ns of)

abbrev written_if : Bool → Written → Written → Written
written_if b x y = if b then x else y

false_writes : (b : Bool) (x y : Written) (of : OccType) → b ≡ false → Writes of y → Writes of (written_if b x y)
false_writes true x y of is h = absurd cc
false_writes false x y of is h = h

pub limited_writes : (xs : List Extent) (ns : List ℕ) (of : OccType) → xs ≡ sized_extents ns → is_too_large (arrays ns of) ≡ false → Writes (arrays ns of) (limited (spanned_by xs (Some of)))
limited_writes xs ns of is small =
    subst (λ (zs : List Extent). Writes (arrays ns of) (limited (spanned_by zs (Some of)))) (sym is)
    (subst (λ (o : Option OccType). Writes (arrays ns of) (limited o)) (sym (spanned_arrays ns of))
    (false_writes (is_too_large (arrays ns of)) (record { faults = nameless code.T9 ∷ []; found = None }) (record { faults = []; found = Some (arrays ns of) }) (arrays ns of) small (refl, refl)))

pub after_writes : (xs : List Spanning) (ns : List ℕ) (of : OccType) → all_spanning_faults xs ≡ [] → extents xs ≡ sized_extents ns → is_too_large (arrays ns of) ≡ false → Writes (arrays ns of) (array_after [] xs (Some of))
unfolding array_after
after_writes xs ns of clean is small =
    let there = limited_writes (extents xs) ns of is small in
    (both_clean (all_spanning_faults xs) (limited (spanned_by (extents xs) (Some of))).faults clean there.0, there.1)

pub over_writes : (xs : List Spanning) (ns : List ℕ) (of : OccType) (w : Written) → Writes of w → all_spanning_faults xs ≡ [] → extents xs ≡ sized_extents ns → is_too_large (arrays ns of) ≡ false → Writes (arrays ns of) (array_over xs w)
over_writes xs ns of w h clean is small =
    let there : Writes (arrays ns of) (array_after [] xs w.found) = subst (λ (o : Option OccType). Writes (arrays ns of) (array_after [] xs o)) (sym h.1) (after_writes xs ns of clean is small) in
    (both_clean w.faults (array_after [] xs w.found).faults h.0 there.0, there.1)

abbrev size_if : Bool → Size → Size → Size
size_if b x y = if b then x else y

-- a size of so many
abbrev pub Sizes : ℕ → Size → Type 0
Sizes n x = (x.faults ≡ []) × (x.count ≡ Some n)

true_sizes : (b : Bool) (x y : Size) (n : ℕ) → b ≡ true → Sizes n x → Sizes n (size_if b x y)
true_sizes true x y n is h = h
true_sizes false x y n is h = absurd cc

number_sizes : (n : ℕ) → nat_le n 4294967295 ≡ true → Sizes n (size_of_number (Some (pos n)))
number_sizes n few = true_sizes (nat_le n 4294967295) (record { faults = []; count = Some n }) (record { faults = nameless code.T9 ∷ []; count = None }) n few (refl, refl)

pub size_finds_count : (j : Judged) (value : Value) (n : ℕ) → Finds int (Some value) (j.under int) → number_of value ≡ pos n → nat_le n 4294967295 ≡ true → Sizes n (size j)
size_finds_count j value n h at few =
    let there : Sizes n (size_of_kind (j.under int).kind)
    = subst (λ (z : Kind). Sizes n (size_of_kind z)) (sym h.1) (subst (λ (i : ℤ). Sizes n (size_of_number (Some i))) (sym at) (number_sizes n few)) in
    (both_clean (j.under int).faults (size_of_kind (j.under int).kind).faults h.0 there.0, there.1)
