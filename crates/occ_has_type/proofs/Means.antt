-- What the relation says of what is known of an operand.
use Rattle.std.proofs.Common.{◌≡◌, ◌⊎◌, inl, inr, Bool, true, false, [], Option, Some, None, if◌then◌else◌, refl, ap, subst}
use Rattle.occ_base.specs.declared.code.Code.{Code}
use Rattle.occ_base.specs.declared.code.Code.TheVariants as code
use Rattle.occ_typing_operands.specs.Outcomes.{in_type, outcome_of}
use Rattle.occ_typing_operands.specs.Operators.{value_outcome}
use Rattle.occ_typing_operands.specs.Settling.{Finding, base_of, fault_of, faulty_if, int, landed, landed_or_int, number, settled, settled_untyped, silent}
use Rattle.occ_typing_operands.specs.Wanting.{cast, conversion, converted_from, converts, fitted, wanted}
use Rattle.occ_typing_operands.specs.declared.kind.Untyped.{Untyped}
use Rattle.occ_typing_operands.specs.declared.kind.Kind.{Kind}
use Rattle.occ_typing_operands.specs.declared.kind.Kind.TheVariants as k
use Rattle.occ_typing_operands.specs.declared.kind.Known.{Known}
use Rattle.occ_typing_operands.specs.declared.kind.TypedValue.{TypedValue}
use Rattle.occ_typing_operands.specs.declared.kind.TypedValue.TheVariants as o
use Rattle.occ_typing_rules.specs.Placing.{constant_in}
use Rattle.occ_types.specs.Constant.{converted}
use Rattle.occ_types.specs.Fits.{fits}
use Rattle.occ_types.specs.declared.constant.ConstFault.{ConstFault}
use Rattle.occ_types.specs.declared.types.OccType.{OccType}
use Rattle.occ_types.specs.declared.value.Primitive.{Primitive}
use Rattle.occ_types.specs.declared.value.Primitive.TheVariants as p
use Rattle.occ_types.specs.declared.value.Value.{Value}
use Rattle.std.specs.Prelude.{Result, Ok, Err}
use Rattle.occ_has_type.specs.Types.{IsAlone}
use Rattle.occ_has_type.specs.Values.{Is, IsCast}
use Rattle.occ_has_type.proofs.Literals.{int_base}

-- a type and a value that an expression has
abbrev pub Has : Type 1
Has = OccType → Option Value → Type 0

abbrev pub IsGood : TypedValue → Type 0
IsGood o.Unfit = ⊥
IsGood (o.Faulty w) = ⊥
IsGood o.Varying = Unit {0}
IsGood (o.Constant u) = Unit {0}

-- what holds of what is settled: it is known, or faulty
abbrev pub Knows : (Known → Type 0) → Kind → Type 0
Knows Q k.Faulty = Unit {0}
Knows Q (k.Untyped f) = ⊥
Knows Q (k.Known x) = Q x

-- a free one has each number's type in which it comes to something
abbrev pub FreeMeans : Has → Untyped → Type 0
FreeMeans H f = f.is_faulty ≡ false → (to : OccType) (base : Primitive) → number (base_of to) ≡ Some base → IsGood (in_type f base) → H to (constant_in (in_type f base))

abbrev pub Means : Bool → Has → Kind → Type 0
Means free H k.Faulty = Unit {0}
Means free H (k.Untyped f) = (free ≡ true) × FreeMeans H f
Means free H (k.Known x) = (free ≡ false) × H x.of x.value

pub knows_as : (Q R : Known → Type 0) (kind : Kind) → ((x : Known) → Q x → R x) → Knows Q kind → Knows R kind
knows_as Q R k.Faulty make h = tt
knows_as Q R (k.Untyped f) make h = h
knows_as Q R (k.Known x) make h = make x h

pub knows_found : (Q : Known → Type 0) (kind : Kind) (x : Known) → Knows Q kind → kind ≡ k.Known x → Q x
knows_found Q kind x h is = subst (Knows Q) is h

pub means_as : (free : Bool) (H J : Has) (kind : Kind) → ((of : OccType) (value : Option Value) → H of value → J of value) → Means free H kind → Means free J kind
means_as free H J k.Faulty make h = tt
means_as free H J (k.Untyped f) make h = (h.0, λ sound to base is good. make to (constant_in (in_type f base)) (h.1 sound to base is good))
means_as free H J (k.Known x) make h = (h.0, make x.of x.value h.1)

pub means_free : (a b : Bool) (H : Has) (kind : Kind) → a ≡ b → Means a H kind → Means b H kind
means_free a b H kind is h = subst (λ c. Means c H kind) is h

-- ---- findings

abbrev pub chosen : Bool → Finding → Finding → Finding
chosen b x y = if b then x else y

pub knows_chosen : (Q : Known → Type 0) (b : Bool) (x : Finding) (c : Code) → (b ≡ true → Knows Q x.kind) → Knows Q (chosen b x (fault_of c)).kind
knows_chosen Q true x c h = h refl
knows_chosen Q false x c h = tt

pub knows_otherwise : (Q : Known → Type 0) (b : Bool) (x : Finding) (c : Code) → (b ≡ false → Knows Q x.kind) → Knows Q (chosen b (fault_of c) x).kind
knows_otherwise Q true x c h = tt
knows_otherwise Q false x c h = h refl

pub knows_unless : (Q : Known → Type 0) (b : Bool) (x : Finding) → (b ≡ false → Knows Q x.kind) → Knows Q (chosen b silent x).kind
knows_unless Q true x h = tt
knows_unless Q false x h = h refl

-- ---- outcomes

pub knows_landed : (Q : Known → Type 0) (of : OccType) (x : TypedValue) → (IsGood x → Q (record { of = of; value = constant_in x })) → Knows Q (landed of x).kind
knows_landed Q of o.Unfit h = tt
knows_landed Q of (o.Faulty w) h = tt
knows_landed Q of o.Varying h = h tt
knows_landed Q of (o.Constant u) h = h tt

pub good_outcome : (r : Result Value ConstFault) → IsGood (outcome_of r) → Is r (constant_in (outcome_of r))
good_outcome (Ok v) h = (v, refl, refl)
good_outcome (Err e) h = absurd h

pub value_back : (v : Option Value) → constant_in (value_outcome v) ≡ v
value_back None = refl
value_back (Some v) = refl

pub value_good : (v : Option Value) → IsGood (value_outcome v)
value_good None = tt
value_good (Some v) = tt

-- ---- what takes a type

-- it has the type that is wanted, or INT, if it is free
abbrev pub Settles : OccType → Bool → Has → Known → Type 0
Settles to free H x = H x.of x.value × (free ≡ true → (x.of ≡ to) ⊎ (x.of ≡ int))

settles_int : (to : OccType) (free : Bool) (H : Has) (f : Untyped) → f.is_faulty ≡ false → FreeMeans H f → Knows (Settles to free H) (landed int f.int).kind
settles_int to free H f sound h = knows_landed (Settles to free H) int f.int (λ good. (h sound int p.Int (ap number int_base) good, λ _. inr refl))

or_int_settles : (to : OccType) (free : Bool) (H : Has) (f : Untyped) (base : Primitive) (x : TypedValue) → f.is_faulty ≡ false → FreeMeans H f → number (base_of to) ≡ Some base → in_type f base ≡ x
    → Knows (Settles to free H) (landed_or_int to f x).kind
or_int_settles to free H f base o.Unfit sound h is at = settles_int to free H f sound h
or_int_settles to free H f base (o.Faulty w) sound h is at = tt
or_int_settles to free H f base o.Varying sound h is at = (subst (λ (y : TypedValue). IsGood y → H to (constant_in y)) at (h sound to base is) tt, λ _. inl refl)
or_int_settles to free H f base (o.Constant u) sound h is at = (subst (λ (y : TypedValue). IsGood y → H to (constant_in y)) at (h sound to base is) tt, λ _. inl refl)

untyped_settles : (to : OccType) (free : Bool) (H : Has) (f : Untyped) (base : Option Primitive) → f.is_faulty ≡ false → FreeMeans H f → number (base_of to) ≡ base → Knows (Settles to free H) (settled_untyped to f base).kind
untyped_settles to free H f None sound h is = settles_int to free H f sound h
untyped_settles to free H f (Some base) sound h is = or_int_settles to free H f base (in_type f base) sound h is refl

if_settles : (Q : Known → Type 0) (b : Bool) (x : Finding) → (b ≡ false → Knows Q x.kind) → Knows Q (faulty_if b x).kind
if_settles Q true x h = tt
if_settles Q false x h = h refl

pub settles : (to : OccType) (free : Bool) (H : Has) (kind : Kind) → Means free H kind → Knows (Settles to free H) (settled to kind).kind
settles to free H k.Faulty h = tt
settles to free H (k.Untyped f) h = if_settles (Settles to free H) f.is_faulty (settled_untyped to f (number (base_of to))) (λ sound. untyped_settles to free H f (number (base_of to)) sound h.1 refl)
settles to free H (k.Known x) h = (h.1, λ is. absurd cc (h.0, is))

-- alone it is an INT, if it is free
abbrev pub Alone : Bool → Has → Known → Type 0
Alone free H x = H x.of x.value × IsAlone free x.of

one_of : (of : OccType) → (of ≡ int) ⊎ (of ≡ int) → of ≡ int
one_of of (inl h) = h
one_of of (inr h) = h

pub settles_alone : (free : Bool) (H : Has) (kind : Kind) → Means free H kind → Knows (Alone free H) (settled int kind).kind
settles_alone free H kind h = knows_as (Settles int free H) (Alone free H) (settled int kind).kind (λ x g. (g.0, λ is. one_of x.of (g.1 is))) (settles int free H kind h)

-- where a type is wanted it fits it
abbrev pub Fits : OccType → Has → Known → Type 0
Fits to H x = H x.of x.value × (fits to x.of ≡ true)

pub knows_fitted : (to : OccType) (H : Has) (kind : Kind) → Knows (λ x. H x.of x.value) kind → Knows (Fits to H) (fitted to kind).kind
knows_fitted to H k.Faulty h = tt
knows_fitted to H (k.Untyped f) h = tt
knows_fitted to H (k.Known x) h = knows_chosen (Fits to H) (fits to x.of) (record { faults = []; kind = k.Known x }) code.T2 (λ is. (h, is))

pub knows_wanted : (to : OccType) (free : Bool) (H : Has) (kind : Kind) → Means free H kind → Knows (Fits to H) (wanted to kind).kind
knows_wanted to free H kind h = knows_fitted to H (settled to kind).kind (knows_as (Settles to free H) (λ x. H x.of x.value) (settled to kind).kind (λ x g. g.0) (settles to free H kind h))

-- ---- conversions

-- of what stands alone so
abbrev pub Converts : OccType → Has → Known → Type 0
Converts to A y = (y.of ≡ to) × (from : OccType) × (inner : Option Value) × A from inner × (converts to from ≡ true) × IsCast (base_of to) inner y.value

cast_made : (base : Option Primitive) (value : Option Value) → IsGood (cast base value) → IsCast base value (constant_in (cast base value))
cast_made None value good = refl
cast_made (Some base) None good = refl
cast_made (Some base) (Some v) good = good_outcome (converted base v) good

from_converts : (to : OccType) (A : Has) (kind : Kind) → Knows (λ x. A x.of x.value) kind → Knows (Converts to A) (converted_from to kind).kind
from_converts to A k.Faulty h = tt
from_converts to A (k.Untyped f) h = tt
from_converts to A (k.Known x) h =
    knows_chosen (Converts to A) (converts to x.of) (landed to (cast (base_of to) x.value)) code.T2
    (λ is. knows_landed (Converts to A) to (cast (base_of to) x.value) (λ good. (refl, x.of, x.value, h, is, cast_made (base_of to) x.value good)))

pub knows_conversion : (to : OccType) (A : Has) (kind : Kind) → Knows (λ x. A x.of x.value) (settled int kind).kind → Knows (Converts to A) (conversion to kind).kind
knows_conversion to A kind h = from_converts to A (settled int kind).kind h
