-- Types that are written: what is found of them is what the relation says.
use Rattle.std.proofs.Common.{◌≡◌, ◌∙◌, ℕ, Bool, true, false, List, [], ◌∷◌, Option, Some, None, if◌then◌else◌, refl, ap, sym, subst}
use Rattle.std.specs.Prelude.{ℤ, pos, negsuc, nat_le}
use Rattle.occ_base.specs.Reporting.{nameless}
use Rattle.occ_base.specs.declared.code.Code.TheVariants as code
use Rattle.occ_expr_operations.specs.Parts.{Said}
use Rattle.occ_expr_operations.specs.Views.{sized_dimension}
use Rattle.occ_expr_operations.specs.Written.{Spanning, Written, array_after, array_over, array_over_more, base_type, channel, channel_if, channel_of_values, count_fault, count_type, counted_type, data_form, extent_of, extents, limited, primitive_of, spanned, spanned_by}
use Rattle.occ_expr_operations.specs.declared.written.Extent.{Extent}
use Rattle.occ_expr_operations.specs.declared.written.Extent.TheVariants as extent
use Rattle.occ_forms_expressions.specs.declared.tree.Builtin.TheVariants as uv
use Rattle.occ_forms_expressions.specs.declared.tree.ChannelWords.{ChannelWords}
use Rattle.occ_forms_expressions.specs.declared.tree.DataBase.{DataBase}
use Rattle.occ_forms_expressions.specs.declared.tree.DataBase.TheVariants as base
use Rattle.occ_forms_expressions.specs.declared.tree.Dimension.{Dimension}
use Rattle.occ_forms_expressions.specs.declared.tree.Dimension.TheVariants as dv
use Rattle.occ_forms_expressions.specs.declared.tree.Expr.{Expr}
use Rattle.occ_scope.specs.Lookup.{carries, data_type}
use Rattle.occ_scope.specs.Visible.{visible}
use Rattle.occ_scope.specs.declared.meaning.Meaning.{Meaning}
use Rattle.occ_scope.specs.declared.meaning.Meaning.TheVariants as meaning
use Rattle.occ_scope.specs.declared.scope.Scope.{Scope}
use Rattle.occ_typing_operands.specs.Settling.{int, number}
use Rattle.occ_typing_operands.specs.declared.kind.Kind.{Kind}
use Rattle.occ_typing_operands.specs.declared.kind.Kind.TheVariants as k
use Rattle.occ_typing_tables.specs.Dimensions.{Size, size_of_kind, size_of_number}
use Rattle.occ_typing_tables.specs.Extents.{is_too_large}
use Rattle.occ_typing_tables.specs.Segments.{number_in}
use Rattle.occ_typing_tables.specs.Terms.{judged}
use Rattle.occ_types.specs.Constant.{number_of}
use Rattle.occ_types.specs.View.{as_primitive}
use Rattle.occ_types.specs.declared.types.OccType.{OccType}
use Rattle.occ_types.specs.declared.types.OccType.TheVariants as t
use Rattle.occ_types.specs.declared.value.Primitive.{Primitive}
use Rattle.occ_types.specs.declared.value.Value.{Value}
use Rattle.occ_has_type.specs.Free.{is_free}
use Rattle.occ_has_type.specs.Types.{AreSizes, HasType, IsArrayOf, IsBuiltin, IsData, IsWritten, StandsAlone, Takes, arrays, values_channel}
use Rattle.occ_has_type.specs.Types as has
use Rattle.occ_has_type.proofs.Gives.{Any, any_as}
use Rattle.occ_has_type.proofs.Means.{Knows}
use Rattle.occ_has_type.proofs.Operating.{Beside}
use Rattle.occ_has_type.proofs.Reading.{ItemReads, takes_int, under_reads}

-- ---- dimensions

-- a size in the relation
pub record IsSize (s : Scope) (d : Dimension) (n : ℕ) : Type 0 where
  pub e : Expr
  pub is : d ≡ dv.Sized e
  pub value : Value
  pub typed : HasType s e int (Some value)
  pub at : number_of value ≡ pos n
  pub few : nat_le n 4294967295 ≡ true

abbrev pub Spans : Scope → Dimension → Extent → Type 0
Spans s d extent.Faulty = Unit {0}
Spans s d extent.Open = ⊥
Spans s d (extent.Sized n) = IsSize s d n

abbrev size_if : Bool → ℕ → Size
size_if b n = if b then record { faults = []; count = Some n } else record { faults = nameless code.T9 ∷ []; count = None }

if_size : (s : Scope) (e : Expr) (value : Value) (n : ℕ) (b : Bool) → nat_le n 4294967295 ≡ b → HasType s e int (Some value) → number_of value ≡ pos n
    → Spans s (dv.Sized e) (extent_of (size_if b n).count)
if_size s e value n true few h at = record { e = e; is = refl; value = value; typed = h; at = at; few = few }
if_size s e value n false few h at = tt

number_spans : (s : Scope) (e : Expr) (value : Option Value) (i : Option ℤ) → number_in value ≡ i → HasType s e int value → Spans s (dv.Sized e) (extent_of (size_of_number i).count)
number_spans s e value None at h = tt
number_spans s e value (Some (negsuc n)) at h = tt
number_spans s e None (Some (pos n)) at h = absurd cc
number_spans s e (Some v) (Some (pos n)) at h = if_size s e v n (nat_le n 4294967295) refl h (cc (at))

kind_spans : (s : Scope) (e : Expr) (kind : Kind) → Knows (λ x. Takes s e int x.of x.value) kind → Spans s (dv.Sized e) (extent_of (size_of_kind kind).count)
kind_spans s e k.Faulty h = tt
kind_spans s e (k.Untyped f) h = absurd h
kind_spans s e (k.Known x) h = number_spans s e x.value (number_in x.value) refl (takes_int s e x.of x.value h)

pub sized_spans : (s : Scope) (e : Expr) (x : Said) → ItemReads s e (judged x.term) → Spans s (dv.Sized e) (sized_dimension x).extent
sized_spans s e x h = kind_spans s e ((judged x.term).under int).kind (under_reads (is_free e) (StandsAlone s e) (Takes s e) (Beside (HasType s e)) x.term int h)

abbrev pub AllSpan : Scope → List Dimension → List Spanning → Type 0
AllSpan s [] [] = Unit {0}
AllSpan s [] (x ∷ xs) = ⊥
AllSpan s (d ∷ ds) [] = ⊥
AllSpan s (d ∷ ds) (x ∷ xs) = Spans s d x.extent × AllSpan s ds xs

-- ---- types with dimensions

abbrev Arrays : Scope → List Dimension → OccType → OccType → Type 0
Arrays s ds of to = (ns : List ℕ) × AreSizes s ds ns × (to ≡ arrays ns of)

one_spanned : (s : Scope) (d : Dimension) (ds : List Dimension) (of : OccType) (x : Extent) (o : Option OccType) → Spans s d x → Any (Arrays s ds of) o → Any (Arrays s (d ∷ ds) of) (spanned x o)
one_spanned s d ds of x None h g = tt
one_spanned s d ds of extent.Faulty (Some u) h g = tt
one_spanned s d ds of extent.Open (Some u) h g = absurd h
one_spanned s d ds of (extent.Sized n) (Some u) h g = (
  n ∷ g.0,
  subst (λ (z : Dimension). AreSizes s (z ∷ ds) (n ∷ g.0)) (sym h.is) (has.one_size h.e ds h.value n g.0 h.typed h.at h.few g.1),
  ap (t.Array (Some n)) g.2,
)

all_spanned : (s : Scope) (ds : List Dimension) (xs : List Spanning) (of : OccType) → AllSpan s ds xs → Any (Arrays s ds of) (spanned_by (extents xs) (Some of))
all_spanned s [] [] of h = ([], has.no_size, refl)
all_spanned s [] (x ∷ xs) of h = absurd h
all_spanned s (d ∷ ds) [] of h = absurd h
all_spanned s (d ∷ ds) (x ∷ xs) of h = one_spanned s d ds of x.extent (spanned_by (extents xs) (Some of)) h.0 (all_spanned s ds xs of h.1)

none_spanned : (xs : List Spanning) → spanned_by (extents xs) None ≡ None
none_spanned [] = refl
none_spanned (x ∷ xs) = ap (spanned x.extent) (none_spanned xs)

abbrev written_if : Bool → OccType → Written
written_if b of = if b then record { faults = nameless code.T9 ∷ []; found = None } else record { faults = []; found = Some of }

if_written : (Q : OccType → Type 0) (b : Bool) (of : OccType) → (b ≡ false → Q of) → Any Q (written_if b of).found
if_written Q true of h = tt
if_written Q false of h = h refl

limited_array : (s : Scope) (ds : List Dimension) (of : OccType) (o : Option OccType) → Any (Arrays s ds of) o → Any (IsArrayOf s ds of) (limited o).found
limited_array s ds of None h = tt
limited_array s ds of (Some to) h =
    if_written (IsArrayOf s ds of) (is_too_large to) to
    (λ small. subst (IsArrayOf s ds of) (sym h.2) (has.array_of ds of h.0 h.1 (sym (ap is_too_large h.2) ∙ small)))

-- an array of what is found
abbrev pub Over : Scope → List Dimension → (OccType → Type 0) → OccType → Type 0
Over s ds P to = (inside : OccType) × P inside × IsArrayOf s ds inside to

any_over : (s : Scope) (ds : List Dimension) (P : OccType → Type 0) (of : OccType) (o : Option OccType) → P of → Any (IsArrayOf s ds of) o → Any (Over s ds P) o
any_over s ds P of None h g = tt
any_over s ds P of (Some to) h g = (of, h, g)

pub after_over : (s : Scope) (ds : List Dimension) (xs : List Spanning) (P : OccType → Type 0) (found : Option OccType) → AllSpan s ds xs → Any P found → Any (Over s ds P) (limited (spanned_by (extents xs) found)).found
after_over s ds xs P None h g = subst (λ (o : Option OccType). Any (Over s ds P) (limited o).found) (sym (none_spanned xs)) tt
after_over s ds xs P (Some of) h g = any_over s ds P of (limited (spanned_by (extents xs) (Some of))).found g (limited_array s ds of (spanned_by (extents xs) (Some of)) (all_spanned s ds xs of h))

pub array_any : (s : Scope) (ds : List Dimension) (xs : List Spanning) (P : OccType → Type 0) (w : Written) → AllSpan s ds xs → Any P w.found → Any (Over s ds P) (array_over xs w).found
unfolding array_after
array_any s ds xs P w h g = after_over s ds xs P w.found h g

pub array_more_any : (s : Scope) (d : Dimension) (ds : List Dimension) (first : Spanning) (xs : List Spanning) (P : OccType → Type 0) (w : Written) → Spans s d first.extent → AllSpan s ds xs → Any P w.found
    → Any (Over s (d ∷ ds) P) (array_over_more first xs w).found
unfolding array_after
array_more_any s d ds first xs P w h g i = after_over s (d ∷ ds) (first ∷ xs) P w.found (h, g) i

-- ---- names

abbrev pub Names : Scope → List ℕ → OccType → Type 0
Names s name to = visible s name ≡ Some (meaning.Type (Some to))

type_any : (name : List ℕ) (m : Option Meaning) → Any (λ to. m ≡ Some (meaning.Type (Some to))) (data_type name m).found
type_any name None = tt
type_any name (Some meaning.Faulty) = tt
type_any name (Some (meaning.Type None)) = tt
type_any name (Some (meaning.Type (Some of))) = refl
type_any name (Some (meaning.Protocol c)) = tt
type_any name (Some (meaning.Procedure fs)) = tt
type_any name (Some (meaning.Function fs results)) = tt
type_any name (Some (meaning.Element w)) = tt

pub named_any : (s : Scope) (name : List ℕ) → Any (Names s name) (data_type name (visible s name)).found
named_any s name = type_any name (visible s name)

pub data_any : (s : Scope) (ds : List Dimension) (xs : List Spanning) (b : DataBase) → AllSpan s ds xs → Any (IsData s ds b) (data_form s xs b).found
unfolding data_form
data_any s ds xs (base.Named name) h =
    any_as (Over s ds (Names s name)) (IsData s ds (base.Named name)) (array_over xs (base_type s (base.Named name))).found (λ to g. has.named_data ds name g.0 to g.1 g.2) (array_any s ds xs (Names s name) (base_type s (base.Named name)) h (named_any s name))
data_any s ds xs (base.Primitive w) h =
    any_as (Over s ds (λ to. to ≡ t.Primitive (primitive_of w))) (IsData s ds (base.Primitive w)) (array_over xs (base_type s (base.Primitive w))).found
    (λ to g. has.primitive_data ds w to (subst (λ (z : OccType). IsArrayOf s ds z to) g.1 g.2))
    (array_any s ds xs (λ to. to ≡ t.Primitive (primitive_of w)) (base_type s (base.Primitive w)) h refl)

-- ---- channels

carried_any : (s : Scope) (words : ChannelWords) (name : List ℕ) (m : Option Meaning) → visible s name ≡ m → Any (IsBuiltin s (uv.Channel words [] (base.Named name))) (channel_if (carries name m).found)
carried_any s words name None is = tt
carried_any s words name (Some meaning.Faulty) is = tt
carried_any s words name (Some (meaning.Type None)) is = tt
carried_any s words name (Some (meaning.Type (Some of))) is = has.channel_of_name words name of is
carried_any s words name (Some (meaning.Protocol c)) is = has.channel_of_protocol words name c is
carried_any s words name (Some (meaning.Procedure fs)) is = tt
carried_any s words name (Some (meaning.Function fs results)) is = tt
carried_any s words name (Some (meaning.Element w)) is = tt

values_any : (s : Scope) (words : ChannelWords) (ds : List Dimension) (b : DataBase) (o : Option OccType) → Any (IsData s ds b) o → Any (IsBuiltin s (uv.Channel words ds b)) (channel_of_values o)
values_any s words ds b None h = tt
values_any s words ds b (Some of) h = has.channel words ds b of h

pub channel_any : (s : Scope) (words : ChannelWords) (ds : List Dimension) (xs : List Spanning) (b : DataBase) → AllSpan s ds xs → Any (IsBuiltin s (uv.Channel words ds b)) (channel s xs b).found
unfolding channel
channel_any s words [] [] (base.Named name) h = carried_any s words name (visible s name) refl
channel_any s words [] [] (base.Primitive w) h = values_any s words [] (base.Primitive w) (data_form s [] (base.Primitive w)).found (data_any s [] [] (base.Primitive w) h)
channel_any s words [] (x ∷ xs) b h = absurd h
channel_any s words (d ∷ ds) [] b h = absurd h
channel_any s words (d ∷ ds) (x ∷ xs) b h = values_any s words (d ∷ ds) b (data_form s (x ∷ xs) b).found (data_any s (d ∷ ds) (x ∷ xs) b h)

count_any : (count : OccType) (o : Option Primitive) → number (as_primitive count) ≡ o → Any (λ x. number (as_primitive count) ≡ Some x) (count_fault o).found
count_any count None is = tt
count_any count (Some x) is = is

counted_any_of : (s : Scope) (words : ChannelWords) (ds es : List Dimension) (b c : DataBase) (count : OccType) (o : Option Primitive) (of : Option OccType) → IsData s ds b count
    → Any (λ x. number (as_primitive count) ≡ Some x) o → Any (IsData s es c) of → Any (IsBuiltin s (uv.Counted words ds b es c)) (counted_type o of)
unfolding counted_type
counted_any_of s words ds es b c count None of h g i = tt
counted_any_of s words ds es b c count (Some x) None h g i = tt
counted_any_of s words ds es b c count (Some x) (Some of) h g i = has.counted words ds es b c count of x h g i

pub counted_any : (s : Scope) (words : ChannelWords) (ds es : List Dimension) (b c : DataBase) (count of : Option OccType) → Any (IsData s ds b) count → Any (IsData s es c) of
    → Any (IsBuiltin s (uv.Counted words ds b es c)) (counted_type (count_type count).found of)
unfolding count_type counted_type
counted_any s words ds es b c None of h g = tt
counted_any s words ds es b c (Some count) of h g = counted_any_of s words ds es b c count (count_fault (number (as_primitive count))).found of h (count_any count (number (as_primitive count)) refl) g
