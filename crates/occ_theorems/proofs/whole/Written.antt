-- Types as a line writes them, without faults: what was found is a type in which nothing is unknown.
use Rattle.std.proofs.Common.{◌≡◌, ◌∙◌, ◌++◌, ◌||◌, ℕ, Bool, true, false, List, [], ◌∷◌, Option, Some, None, if◌then◌else◌, ap}
use Rattle.std.specs.Prelude.{ℤ, pos, negsuc, nat_le}
use Rattle.occ_base.specs.Reporting.{nameless}
use Rattle.occ_base.specs.declared.code.Code.TheVariants as code
use Rattle.occ_expr_operations.specs.Parts.{Said}
use Rattle.occ_expr_operations.specs.Views.{sized_dimension}
use Rattle.occ_expr_operations.specs.Written.{Spanning, Written, all_spanning_faults, array_after, array_over, array_over_more, base_type, channel, channel_if, channel_of_values, count_fault, count_type, counted_channel, counted_type, data_form, extent_of, extents, limited, open_dimension, primitive_of, spanned, spanned_by}
use Rattle.occ_expr_operations.specs.declared.written.Extent.{Extent}
use Rattle.occ_expr_operations.specs.declared.written.Extent.TheVariants as extent
use Rattle.occ_expr_operations.specs.declared.written.Opening.{Opening}
use Rattle.occ_expr_operations.specs.declared.written.Opening.TheVariants as opening
use Rattle.occ_forms_expressions.specs.declared.tree.DataBase.{DataBase}
use Rattle.occ_forms_expressions.specs.declared.tree.DataBase.TheVariants as base
use Rattle.occ_scope.specs.Lookup.{carries, good}
use Rattle.occ_scope.specs.Visible.{visible}
use Rattle.occ_scope.specs.declared.lookup.Carried.{Carried}
use Rattle.occ_scope.specs.declared.lookup.Carried.TheVariants as carried
use Rattle.occ_scope.specs.declared.scope.Scope.{Scope}
use Rattle.occ_typing_operands.specs.Settling.{int, number}
use Rattle.occ_typing_operands.specs.declared.kind.Kind.{Kind}
use Rattle.occ_typing_operands.specs.declared.kind.Kind.TheVariants as k
use Rattle.occ_typing_tables.specs.Dimensions.{Size, size, size_of_kind, size_of_number}
use Rattle.occ_typing_tables.specs.Extents.{is_too_large}
use Rattle.occ_typing_tables.specs.Segments.{number_in}
use Rattle.occ_typing_tables.specs.Terms.{Judged, judged}
use Rattle.occ_typing_rules.specs.declared.open_expr.OpenExpr.{OpenExpr}
use Rattle.occ_types.specs.Unknown.{holds_unknown}
use Rattle.occ_types.specs.View.{as_primitive}
use Rattle.occ_types.specs.declared.types.Item.TheVariants as item
use Rattle.occ_types.specs.declared.types.OccType.{OccType}
use Rattle.occ_types.specs.declared.types.OccType.TheVariants as t
use Rattle.occ_types.specs.declared.types.Protocol.TheVariants as protocol
use Rattle.occ_types.specs.declared.value.Primitive.{Primitive}
use Rattle.occ_types.proofs.Unknowns.{unknown_array, unknown_channel, unknown_counted, unknown_primitive, unknown_sequence, unknown_value}
use Rattle.occ_typing.specs.Known.{IsKnownScope, IsKnownType}
use Rattle.occ_theorems.proofs.whole.Clean.{IsThere, back_clean, front_clean}
use Rattle.occ_theorems.proofs.whole.Names.{IsCarried, IsTyped, carried_found, type_found, visible_known}
use Rattle.occ_theorems.proofs.whole.Reading.{IsKnown, as_known}
use Rattle.occ_theorems.proofs.whole.Sound.{Sound}

abbrev pub TypeSound : Written → Type 0
TypeSound x = x.faults ≡ [] → IsTyped x.found

-- ---- dimensions

abbrev pub IsExtent : Extent → Type 0
IsExtent extent.Faulty = ⊥
IsExtent extent.Open = Unit {0}
IsExtent (extent.Sized n) = Unit {0}

abbrev pub AreExtents : List Extent → Type 0
AreExtents [] = Unit {0}
AreExtents (x ∷ xs) = IsExtent x × AreExtents xs

abbrev pub SpanSound : Spanning → Type 0
SpanSound x = x.faults ≡ [] → IsExtent x.extent

abbrev pub AllSpan : List Spanning → Type 0
AllSpan [] = Unit {0}
AllSpan (x ∷ xs) = SpanSound x × AllSpan xs

pub open_sound : (o : Opening) → SpanSound (open_dimension o)
open_sound opening.Allowed e = tt
open_sound opening.Refused e = absurd cc

extent_there : (n : Option ℕ) → IsThere n → IsExtent (extent_of n)
extent_there None h = h
extent_there (Some n) h = tt

abbrev size_if : Bool → ℕ → Size
size_if b n = if b then record { faults = []; count = Some n } else record { faults = nameless code.T9 ∷ []; count = None }

if_size : (b : Bool) (n : ℕ) → (size_if b n).faults ≡ [] → IsThere (size_if b n).count
if_size true n e = tt
if_size false n e = absurd cc

number_there : (n : Option ℤ) → (size_of_number n).faults ≡ [] → IsThere (size_of_number n).count
number_there None e = absurd cc
number_there (Some (negsuc n)) e = absurd cc
number_there (Some (pos n)) e = if_size (nat_le n 4294967295) n e

kind_there : (kind : Kind) → IsKnown kind → (size_of_kind kind).faults ≡ [] → IsThere (size_of_kind kind).count
kind_there k.Faulty h e = absurd h
kind_there (k.Untyped f) h e = absurd h
kind_there (k.Known x) h e = number_there (number_in x.value) e

size_there : (j : Judged) (d : OpenExpr) → Sound j d → (size j).faults ≡ [] → IsThere (size j).count
size_there j d h e =
    let x = j.under int in
    kind_there x.kind (as_known int x.kind d (h.wanted int (front_clean x.faults (size_of_kind x.kind).faults e))) (back_clean x.faults (size_of_kind x.kind).faults e)

pub sized_sound : (x : Said) (d : OpenExpr) → (x.faults ≡ [] → Sound (judged x.term) d) → SpanSound (sized_dimension x)
sized_sound x d h e =
    let y = size (judged x.term) in
    extent_there y.count (size_there (judged x.term) d (h (front_clean x.faults y.faults e)) (back_clean x.faults y.faults e))

-- ---- types with dimensions

abbrev written_if : Bool → OccType → Written
written_if b of = if b then record { faults = nameless code.T9 ∷ []; found = None } else good of

if_written : (b : Bool) (of : OccType) → IsKnownType of → (written_if b of).faults ≡ [] → IsTyped (written_if b of).found
if_written true of h e = absurd cc
if_written false of h e = h

pub limited_typed : (o : Option OccType) → IsTyped o → (limited o).faults ≡ [] → IsTyped (limited o).found
limited_typed None h e = h
limited_typed (Some of) h e = if_written (is_too_large of) of h e

one_spanned : (x : Extent) (o : Option OccType) → IsExtent x → IsTyped o → IsTyped (spanned x o)
one_spanned x None h g = g
one_spanned extent.Faulty (Some of) h g = absurd h
one_spanned extent.Open (Some of) h g = unknown_array None of ∙ g
one_spanned (extent.Sized n) (Some of) h g = unknown_array (Some n) of ∙ g

all_spanned : (xs : List Extent) (o : Option OccType) → AreExtents xs → IsTyped o → IsTyped (spanned_by xs o)
all_spanned [] o h g = g
all_spanned (x ∷ xs) o h g = one_spanned x (spanned_by xs o) h.0 (all_spanned xs o h.1 g)

both_extents : (xs ys : List Extent) → AreExtents xs → AreExtents ys → AreExtents (xs ++ ys)
both_extents [] ys h g = g
both_extents (x ∷ xs) ys h g = (h.0, both_extents xs ys h.1 g)

span_extents : (xs : List Spanning) → AllSpan xs → all_spanning_faults xs ≡ [] → AreExtents (extents xs)
span_extents [] h e = tt
span_extents (x ∷ xs) h e = (h.0 (front_clean x.faults (all_spanning_faults xs) e), span_extents xs h.1 (back_clean x.faults (all_spanning_faults xs) e))

after_typed : (front : List Extent) (xs : List Spanning) (of : Option OccType) → AreExtents front → AllSpan xs → IsTyped of → (array_after front xs of).faults ≡ [] → IsTyped (array_after front xs of).found
unfolding array_after
after_typed front xs of f h g e =
    let o = spanned_by (front ++ extents xs) of in
    limited_typed o
    (all_spanned (front ++ extents xs) of (both_extents front (extents xs) f (span_extents xs h (front_clean (all_spanning_faults xs) (limited o).faults e))) g)
    (back_clean (all_spanning_faults xs) (limited o).faults e)

pub array_sound : (xs : List Spanning) (of : Written) → AllSpan xs → TypeSound of → TypeSound (array_over xs of)
array_sound xs of h g e =
    let x = array_after [] xs of.found in
    after_typed [] xs of.found tt h (g (front_clean of.faults x.faults e)) (back_clean of.faults x.faults e)

pub array_more_sound : (first : Spanning) (xs : List Spanning) (of : Written) → SpanSound first → AllSpan xs → TypeSound of → TypeSound (array_over_more first xs of)
array_more_sound first xs of f h g e =
    let x = array_after (first.extent ∷ []) xs of.found in
    let rest = back_clean of.faults (first.faults ++ x.faults) e in
    after_typed (first.extent ∷ []) xs of.found (f (front_clean first.faults x.faults rest), tt) h (g (front_clean of.faults (first.faults ++ x.faults) e)) (back_clean first.faults x.faults rest)

base_sound : (s : Scope) (b : DataBase) → IsKnownScope s → TypeSound (base_type s b)
base_sound s (base.Named n) h e = type_found n (visible s n) (visible_known s n h) e
base_sound s (base.Primitive w) h e = unknown_primitive (primitive_of w)

pub data_form_sound : (s : Scope) (xs : List Spanning) (b : DataBase) → IsKnownScope s → AllSpan xs → TypeSound (data_form s xs b)
unfolding data_form
data_form_sound s xs b h g = array_sound xs (base_type s b) g (base_sound s b h)

-- ---- channels

values_unknown : (of : OccType) → IsKnownType of → holds_unknown (t.Channel (protocol.Sequence (item.Value of ∷ []))) ≡ false
values_unknown of h =
    unknown_channel (protocol.Sequence (item.Value of ∷ [])) ∙ unknown_sequence (item.Value of ∷ [])
    ∙ ap (λ (b : Bool). b || false) (unknown_value of ∙ h)

counted_unknown : (count : Primitive) (of : OccType) → IsKnownType of → holds_unknown (t.Channel (protocol.Sequence (item.Counted count of ∷ []))) ≡ false
counted_unknown count of h =
    unknown_channel (protocol.Sequence (item.Counted count of ∷ [])) ∙ unknown_sequence (item.Counted count of ∷ [])
    ∙ ap (λ (b : Bool). b || false) (unknown_counted count of ∙ h)

carried_typed : (x : Option Carried) → IsCarried x → IsTyped (channel_if x)
carried_typed None h = h
carried_typed (Some (carried.Values of)) h = values_unknown of h
carried_typed (Some (carried.Protocol c)) h = unknown_channel c ∙ h

values_typed : (o : Option OccType) → IsTyped o → IsTyped (channel_of_values o)
values_typed None h = h
values_typed (Some of) h = values_unknown of h

pub channel_sound : (s : Scope) (xs : List Spanning) (b : DataBase) → IsKnownScope s → AllSpan xs → TypeSound (channel s xs b)
unfolding channel
channel_sound s [] (base.Named n) h g e = carried_typed (carries n (visible s n)).found (carried_found n (visible s n) (visible_known s n h) e)
channel_sound s [] (base.Primitive w) h g e = values_typed (data_form s [] (base.Primitive w)).found (data_form_sound s [] (base.Primitive w) h g e)
channel_sound s (x ∷ xs) b h g e = values_typed (data_form s (x ∷ xs) b).found (data_form_sound s (x ∷ xs) b h g e)

fault_there : (o : Option Primitive) → (count_fault o).faults ≡ [] → IsThere (count_fault o).found
fault_there None e = absurd cc
fault_there (Some x) e = tt

pub count_there : (o : Option OccType) → IsTyped o → (count_type o).faults ≡ [] → IsThere (count_type o).found
unfolding count_type
count_there None h e = absurd h
count_there (Some of) h e = fault_there (number (as_primitive of)) e

counted_typed : (count : Option Primitive) (of : Option OccType) → IsThere count → IsTyped of → IsTyped (counted_type count of)
unfolding counted_type
counted_typed None of h g = h
counted_typed (Some count) None h g = g
counted_typed (Some count) (Some of) h g = counted_unknown count of g

pub counted_sound : (count of : Written) → TypeSound count → TypeSound of → TypeSound (counted_channel count of)
counted_sound count of h g e =
    let c = count_type count.found in
    let rest = back_clean count.faults (c.faults ++ of.faults) e in
    counted_typed c.found of.found
    (count_there count.found (h (front_clean count.faults (c.faults ++ of.faults) e)) (front_clean c.faults of.faults rest))
    (g (back_clean c.faults of.faults rest))
