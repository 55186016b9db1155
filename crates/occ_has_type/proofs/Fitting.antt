-- A type that is named over a primitive one fits itself.
use Rattle.std.proofs.Common.{◌≡◌, ◌∙◌, ◌&&◌, ◌⊎◌, inl, inr, ℕ, Bool, true, false, List, map, Option, Some, None, refl, ap, sym, subst}
use Rattle.std.proofs.lemmas.Slice.Eq.{bytes_eq-Decides}
use Rattle.occ_typing_operands.specs.Settling.{base_of, number}
use Rattle.occ_types.specs.Fits.{array_fits, channel_fits, field_fits, fits, protocol_fits, record_fits, is_same_name, is_same_primitive, named_fits, primitive_fits}
use Rattle.occ_types.specs.View.{Layer, array_layer, as_array, as_channel, as_named, as_primitive, as_record, channel_layer, is_timer, is_unknown, named_layer, primitive_layer, record_layer, timer_layer, unknown_layer}
use Rattle.occ_types.specs.declared.types.Field.{Field}
use Rattle.occ_types.specs.declared.types.Item.{Item}
use Rattle.occ_types.specs.declared.types.Item.TheFolds.{ind-OccType, map-OccType}
use Rattle.occ_types.specs.declared.types.Item.TheOpen.{OccType-F}
use Rattle.occ_types.specs.declared.types.Item.TheViews.{roll-out-OccType}
use Rattle.occ_types.specs.declared.types.OccType.{OccType, out-OccType, roll-OccType}
use Rattle.occ_types.specs.declared.types.OccType.TheVariants as t
use Rattle.occ_types.specs.declared.types.Packing.{Packing}
use Rattle.occ_types.specs.declared.types.Protocol.{Protocol}
use Rattle.occ_types.specs.declared.types.Tag.{Tag}
use Rattle.occ_types.specs.declared.value.Primitive.{Primitive}
use Rattle.occ_types.specs.declared.value.Primitive.TheVariants as p
use Rattle.occ_types.proofs.Agreeing.{as_array_at_array, as_channel_at_array, as_named_at_array, as_record_at_array, fits_of_array, fits_of_channel, fits_of_record, fits_of_timer, fits_of_unknown, is_timer_at_array, is_unknown_at_array, as_named_at_named, as_primitive_at_array, as_primitive_at_channel, as_primitive_at_primitive, as_primitive_at_record, as_primitive_at_timer, as_primitive_at_unknown, fits_of_named, fits_of_primitive, unnamed_of_array, unnamed_of_channel, unnamed_of_named, unnamed_of_record, unnamed_of_timer, unnamed_of_unknown}

abbrev FitsItself : OccType → Type 0
FitsItself of = (base : Primitive) → base_of of ≡ Some base → fits of of ≡ true

abbrev Some_of : Type 0 → Type 0
Some_of X = (x : X) × Unit {0}

abbrev Fitting : Type 0
Fitting = (of : OccType) × FitsItself of

same_primitive : (x : Primitive) → is_same_primitive x x ≡ true
same_primitive p.Bool = refl
same_primitive p.Byte = refl
same_primitive p.Int = refl
same_primitive p.Int16 = refl
same_primitive p.Int32 = refl
same_primitive p.Int64 = refl

primitive_fits_itself : (x : Primitive) → FitsItself (t.Primitive x)
primitive_fits_itself x base is = fits_of_primitive x (t.Primitive x) ∙ ap (primitive_fits x) (as_primitive_at_primitive x) ∙ same_primitive x

named_fits_itself : (name : List ℕ) (inner : OccType) → FitsItself inner → FitsItself (t.Named name inner)
named_fits_itself name inner h base is =
    fits_of_named name inner (t.Named name inner) ∙ ap (named_fits name (fits inner)) (as_named_at_named name inner)
    ∙ ap (λ (b : Bool). b && fits inner inner) ((bytes_eq-Decides name name).1 refl)
    ∙ h base (sym (ap as_primitive (unnamed_of_named name inner)) ∙ is)

without_base : (of : OccType) → base_of of ≡ None → FitsItself of
without_base of none base is = let bad : None ≡ Some base = sym none ∙ is in absurd cc

type_step : (x : OccType-F Item OccType Protocol Field Tag) (y : OccType-F (Some_of Item) Fitting (Some_of Protocol) (Some_of Field) (Some_of Tag)) → map-OccType _ _ _ _ _ _ _ _ _ _ (λ e. e.0) (λ e. e.0) (λ e. e.0) (λ e. e.0) (λ e. e.0) y ≡ x → FitsItself (roll-OccType x)
type_step x y is = subst (λ z. FitsItself (roll-OccType z)) is (by y) where
  by : (y : OccType-F (Some_of Item) Fitting (Some_of Protocol) (Some_of Field) (Some_of Tag)) → FitsItself (roll-OccType (map-OccType _ _ _ _ _ _ _ _ _ _ (λ e. e.0) (λ e. e.0) (λ e. e.0) (λ e. e.0) (λ e. e.0) y))
  by (OccType-F.Primitive x) = subst FitsItself (sym (t.rolls-Primitive x)) (primitive_fits_itself x)
  by (OccType-F.Array n inner) = subst FitsItself (sym (t.rolls-Array n inner.0)) (without_base (t.Array n inner.0) (ap as_primitive (unnamed_of_array n inner.0) ∙ as_primitive_at_array n inner.0))
  by (OccType-F.Record packing fields) = let fs = map (λ (e : Some_of Field). e.0) fields in
      subst FitsItself (sym (t.rolls-Record packing fs)) (without_base (t.Record packing fs) (ap as_primitive (unnamed_of_record packing fs) ∙ as_primitive_at_record packing fs))
  by (OccType-F.Named name inner) = subst FitsItself (sym (t.rolls-Named name inner.0)) (named_fits_itself name inner.0 inner.1)
  by (OccType-F.Channel c) = subst FitsItself (sym (t.rolls-Channel c.0)) (without_base (t.Channel c.0) (ap as_primitive (unnamed_of_channel c.0) ∙ as_primitive_at_channel c.0))
  by OccType-F.Timer = subst FitsItself (sym t.rolls-Timer) (without_base t.Timer (ap as_primitive unnamed_of_timer ∙ as_primitive_at_timer))
  by OccType-F.Unknown = subst FitsItself (sym t.rolls-Unknown) (without_base t.Unknown (ap as_primitive unnamed_of_unknown ∙ as_primitive_at_unknown))

fits_itself : (of : OccType) → FitsItself of
fits_itself = ind-OccType (λ _. Unit {0}) FitsItself (λ _. Unit {0}) (λ _. Unit {0}) (λ _. Unit {0}) (λ x y e. tt) type_step (λ x y e. tt) (λ x y e. tt) (λ x y e. tt)

-- ---- what a type is, by one look at it

abbrev primitive_is_or : Option (Primitive) → OccType → OccType
primitive_is_or None u = u
primitive_is_or (Some x) u = t.Primitive x

primitive_is_layer : (y : Layer) (x : Primitive) → primitive_layer y ≡ Some x → roll-OccType y ≡ t.Primitive x
primitive_is_layer (OccType-F.Primitive x) z e = t.rolls-Primitive x ∙ ap (λ (o : Option (Primitive)). primitive_is_or o (t.Primitive x)) e
primitive_is_layer (OccType-F.Array n inner) z e = absurd cc
primitive_is_layer (OccType-F.Record packing fields) z e = absurd cc
primitive_is_layer (OccType-F.Named name inner) z e = absurd cc
primitive_is_layer (OccType-F.Channel carried) z e = absurd cc
primitive_is_layer OccType-F.Timer z e = absurd cc
primitive_is_layer OccType-F.Unknown z e = absurd cc

pub primitive_is : (u : OccType) (x : Primitive) → as_primitive u ≡ Some x → u ≡ t.Primitive x
unfolding as_primitive
primitive_is u x e = sym (roll-out-OccType u) ∙ primitive_is_layer (out-OccType u) x e

abbrev array_is_or : Option (Option ℕ × OccType) → OccType → OccType
array_is_or None u = u
array_is_or (Some x) u = t.Array x.0 x.1

array_is_layer : (y : Layer) (x : Option ℕ × OccType) → array_layer y ≡ Some x → roll-OccType y ≡ t.Array x.0 x.1
array_is_layer (OccType-F.Primitive x) z e = absurd cc
array_is_layer (OccType-F.Array n inner) z e = t.rolls-Array n inner ∙ ap (λ (o : Option (Option ℕ × OccType)). array_is_or o (t.Array n inner)) e
array_is_layer (OccType-F.Record packing fields) z e = absurd cc
array_is_layer (OccType-F.Named name inner) z e = absurd cc
array_is_layer (OccType-F.Channel carried) z e = absurd cc
array_is_layer OccType-F.Timer z e = absurd cc
array_is_layer OccType-F.Unknown z e = absurd cc

pub array_is : (u : OccType) (x : Option ℕ × OccType) → as_array u ≡ Some x → u ≡ t.Array x.0 x.1
unfolding as_array
array_is u x e = sym (roll-out-OccType u) ∙ array_is_layer (out-OccType u) x e

abbrev record_is_or : Option (Packing × List Field) → OccType → OccType
record_is_or None u = u
record_is_or (Some x) u = t.Record x.0 x.1

record_is_layer : (y : Layer) (x : Packing × List Field) → record_layer y ≡ Some x → roll-OccType y ≡ t.Record x.0 x.1
record_is_layer (OccType-F.Primitive x) z e = absurd cc
record_is_layer (OccType-F.Array n inner) z e = absurd cc
record_is_layer (OccType-F.Record packing fields) z e = t.rolls-Record packing fields ∙ ap (λ (o : Option (Packing × List Field)). record_is_or o (t.Record packing fields)) e
record_is_layer (OccType-F.Named name inner) z e = absurd cc
record_is_layer (OccType-F.Channel carried) z e = absurd cc
record_is_layer OccType-F.Timer z e = absurd cc
record_is_layer OccType-F.Unknown z e = absurd cc

pub record_is : (u : OccType) (x : Packing × List Field) → as_record u ≡ Some x → u ≡ t.Record x.0 x.1
unfolding as_record
record_is u x e = sym (roll-out-OccType u) ∙ record_is_layer (out-OccType u) x e

abbrev named_is_or : Option (List ℕ × OccType) → OccType → OccType
named_is_or None u = u
named_is_or (Some x) u = t.Named x.0 x.1

named_is_layer : (y : Layer) (x : List ℕ × OccType) → named_layer y ≡ Some x → roll-OccType y ≡ t.Named x.0 x.1
named_is_layer (OccType-F.Primitive x) z e = absurd cc
named_is_layer (OccType-F.Array n inner) z e = absurd cc
named_is_layer (OccType-F.Record packing fields) z e = absurd cc
named_is_layer (OccType-F.Named name inner) z e = t.rolls-Named name inner ∙ ap (λ (o : Option (List ℕ × OccType)). named_is_or o (t.Named name inner)) e
named_is_layer (OccType-F.Channel carried) z e = absurd cc
named_is_layer OccType-F.Timer z e = absurd cc
named_is_layer OccType-F.Unknown z e = absurd cc

pub named_is : (u : OccType) (x : List ℕ × OccType) → as_named u ≡ Some x → u ≡ t.Named x.0 x.1
unfolding as_named
named_is u x e = sym (roll-out-OccType u) ∙ named_is_layer (out-OccType u) x e

abbrev channel_is_or : Option (Protocol) → OccType → OccType
channel_is_or None u = u
channel_is_or (Some x) u = t.Channel x

channel_is_layer : (y : Layer) (x : Protocol) → channel_layer y ≡ Some x → roll-OccType y ≡ t.Channel x
channel_is_layer (OccType-F.Primitive x) z e = absurd cc
channel_is_layer (OccType-F.Array n inner) z e = absurd cc
channel_is_layer (OccType-F.Record packing fields) z e = absurd cc
channel_is_layer (OccType-F.Named name inner) z e = absurd cc
channel_is_layer (OccType-F.Channel carried) z e = t.rolls-Channel carried ∙ ap (λ (o : Option (Protocol)). channel_is_or o (t.Channel carried)) e
channel_is_layer OccType-F.Timer z e = absurd cc
channel_is_layer OccType-F.Unknown z e = absurd cc

pub channel_is : (u : OccType) (x : Protocol) → as_channel u ≡ Some x → u ≡ t.Channel x
unfolding as_channel
channel_is u x e = sym (roll-out-OccType u) ∙ channel_is_layer (out-OccType u) x e

timer_is_layer : (y : Layer) → timer_layer y ≡ true → roll-OccType y ≡ t.Timer
timer_is_layer (OccType-F.Primitive x) e = absurd cc
timer_is_layer (OccType-F.Array n inner) e = absurd cc
timer_is_layer (OccType-F.Record packing fields) e = absurd cc
timer_is_layer (OccType-F.Named name inner) e = absurd cc
timer_is_layer (OccType-F.Channel carried) e = absurd cc
timer_is_layer OccType-F.Timer e = t.rolls-Timer
timer_is_layer OccType-F.Unknown e = absurd cc

pub timer_is : (u : OccType) → is_timer u ≡ true → u ≡ t.Timer
unfolding is_timer
timer_is u e = sym (roll-out-OccType u) ∙ timer_is_layer (out-OccType u) e

unknown_is_layer : (y : Layer) → unknown_layer y ≡ true → roll-OccType y ≡ t.Unknown
unknown_is_layer (OccType-F.Primitive x) e = absurd cc
unknown_is_layer (OccType-F.Array n inner) e = absurd cc
unknown_is_layer (OccType-F.Record packing fields) e = absurd cc
unknown_is_layer (OccType-F.Named name inner) e = absurd cc
unknown_is_layer (OccType-F.Channel carried) e = absurd cc
unknown_is_layer OccType-F.Timer e = absurd cc
unknown_is_layer OccType-F.Unknown e = t.rolls-Unknown

pub unknown_is : (u : OccType) → is_unknown u ≡ true → u ≡ t.Unknown
unfolding is_unknown
unknown_is u e = sym (roll-out-OccType u) ∙ unknown_is_layer (out-OccType u) e

-- ---- types named over primitive ones that fit are one

pub NamedOver : OccType → Type 0
NamedOver of = (base : Primitive) × (base_of of ≡ Some base)

abbrev IsSame : OccType → Type 0
IsSame a = (b : OccType) → fits a b ≡ true → NamedOver a ⊎ NamedOver b → a ≡ b

pub both_true : (a b : Bool) → (a && b) ≡ true → (a ≡ true) × (b ≡ true)
both_true true b e = (refl, e)
both_true false b e = absurd cc

same_primitives : (x y : Primitive) → is_same_primitive x y ≡ true → x ≡ y
same_primitives p.Bool p.Bool e = refl
same_primitives p.Byte p.Byte e = refl
same_primitives p.Int p.Int e = refl
same_primitives p.Int16 p.Int16 e = refl
same_primitives p.Int32 p.Int32 e = refl
same_primitives p.Int64 p.Int64 e = refl
same_primitives x y e = absurd cc

primitive_same : (x : Primitive) → IsSame (t.Primitive x)
primitive_same x b e h = by (as_primitive b) refl (sym (fits_of_primitive x b) ∙ e) where
  by : (o : Option Primitive) → as_primitive b ≡ o → primitive_fits x o ≡ true → t.Primitive x ≡ b
  by None is g = absurd cc
  by (Some y) is g = ap t.Primitive (same_primitives x y g) ∙ sym (primitive_is b y is)

named_same : (name : List ℕ) (inner : OccType) → IsSame inner → IsSame (t.Named name inner)
unfolding NamedOver
named_same name inner same b e h = by (as_named b) refl (sym (fits_of_named name inner b) ∙ e) where
  base_there : (x : List ℕ × OccType) → as_named b ≡ Some x → NamedOver inner ⊎ NamedOver x.1
  base_there x is = elim h [
    | inl g ↦ inl (g.0, sym (ap as_primitive (unnamed_of_named name inner)) ∙ g.1)
    | inr g ↦ inr (g.0, sym (ap as_primitive (unnamed_of_named x.0 x.1)) ∙ sym (ap base_of (named_is b x is)) ∙ g.1)
  ]

  by : (o : Option (List ℕ × OccType)) → as_named b ≡ o → named_fits name (fits inner) o ≡ true → t.Named name inner ≡ b
  by None is g = absurd cc
  by (Some x) is g =
      let both = both_true (is_same_name name x.0) (fits inner x.1) g in
      ap (λ (n : List ℕ). t.Named n inner) ((bytes_eq-Decides name x.0).0 both.0) ∙ ap (t.Named x.0) (same x.1 both.1 (base_there x is)) ∙ sym (named_is b x is)

-- neither is named over one
no_base : (a b : OccType) → base_of a ≡ None → base_of b ≡ None → NamedOver a ⊎ NamedOver b → a ≡ b
unfolding NamedOver
no_base a b none other h = elim h [
  | inl g ↦ let bad : None ≡ Some g.0 = sym none ∙ g.1 in absurd cc
  | inr g ↦ let bad : None ≡ Some g.0 = sym other ∙ g.1 in absurd cc
]

array_none : (n : Option ℕ) (inner : OccType) → base_of (t.Array n inner) ≡ None
array_none n inner = ap as_primitive (unnamed_of_array n inner) ∙ as_primitive_at_array n inner

record_none : (packing : Packing) (fields : List Field) → base_of (t.Record packing fields) ≡ None
record_none packing fields = ap as_primitive (unnamed_of_record packing fields) ∙ as_primitive_at_record packing fields

channel_none : (c : Protocol) → base_of (t.Channel c) ≡ None
channel_none c = ap as_primitive (unnamed_of_channel c) ∙ as_primitive_at_channel c

timer_none : base_of t.Timer ≡ None
timer_none = ap as_primitive unnamed_of_timer ∙ as_primitive_at_timer

unknown_none : base_of t.Unknown ≡ None
unknown_none = ap as_primitive unnamed_of_unknown ∙ as_primitive_at_unknown

array_same : (n : Option ℕ) (inner : OccType) → IsSame (t.Array n inner)
array_same n inner b e h = by (as_array b) refl (sym (fits_of_array n inner b) ∙ e) where
  by : (o : Option (Option ℕ × OccType)) → as_array b ≡ o → array_fits n (fits inner) o ≡ true → t.Array n inner ≡ b
  by None is g = absurd cc
  by (Some x) is g = no_base (t.Array n inner) b (array_none n inner) (ap base_of (array_is b x is) ∙ array_none x.0 x.1) h

record_same : (packing : Packing) (fields : List Field) → IsSame (t.Record packing fields)
record_same packing fields b e h = by (as_record b) refl (sym (fits_of_record packing fields b) ∙ e) where
  by : (o : Option (Packing × List Field)) → as_record b ≡ o → record_fits packing (map field_fits fields) o ≡ true → t.Record packing fields ≡ b
  by None is g = absurd cc
  by (Some x) is g = no_base (t.Record packing fields) b (record_none packing fields) (ap base_of (record_is b x is) ∙ record_none x.0 x.1) h

channel_same : (c : Protocol) → IsSame (t.Channel c)
channel_same c b e h = by (as_channel b) refl (sym (fits_of_channel c b) ∙ e) where
  by : (o : Option Protocol) → as_channel b ≡ o → channel_fits (protocol_fits c) o ≡ true → t.Channel c ≡ b
  by None is g = absurd cc
  by (Some x) is g = no_base (t.Channel c) b (channel_none c) (ap base_of (channel_is b x is) ∙ channel_none x) h

timer_same : IsSame t.Timer
timer_same b e h = sym (timer_is b (sym (fits_of_timer b) ∙ e))

unknown_same : IsSame t.Unknown
unknown_same b e h = sym (unknown_is b (sym (fits_of_unknown b) ∙ e))

abbrev Same : Type 0
Same = (of : OccType) × IsSame of

same_step : (x : OccType-F Item OccType Protocol Field Tag) (y : OccType-F (Some_of Item) Same (Some_of Protocol) (Some_of Field) (Some_of Tag)) → map-OccType _ _ _ _ _ _ _ _ _ _ (λ e. e.0) (λ e. e.0) (λ e. e.0) (λ e. e.0) (λ e. e.0) y ≡ x → IsSame (roll-OccType x)
same_step x y is = subst (λ z. IsSame (roll-OccType z)) is (by y) where
  by : (y : OccType-F (Some_of Item) Same (Some_of Protocol) (Some_of Field) (Some_of Tag)) → IsSame (roll-OccType (map-OccType _ _ _ _ _ _ _ _ _ _ (λ e. e.0) (λ e. e.0) (λ e. e.0) (λ e. e.0) (λ e. e.0) y))
  by (OccType-F.Primitive x) = subst IsSame (sym (t.rolls-Primitive x)) (primitive_same x)
  by (OccType-F.Array n inner) = subst IsSame (sym (t.rolls-Array n inner.0)) (array_same n inner.0)
  by (OccType-F.Record packing fields) = let fs = map (λ (e : Some_of Field). e.0) fields in subst IsSame (sym (t.rolls-Record packing fs)) (record_same packing fs)
  by (OccType-F.Named name inner) = subst IsSame (sym (t.rolls-Named name inner.0)) (named_same name inner.0 inner.1)
  by (OccType-F.Channel c) = subst IsSame (sym (t.rolls-Channel c.0)) (channel_same c.0)
  by OccType-F.Timer = subst IsSame (sym t.rolls-Timer) timer_same
  by OccType-F.Unknown = subst IsSame (sym t.rolls-Unknown) unknown_same

fits_same : (of : OccType) → IsSame of
fits_same = ind-OccType (λ _. Unit {0}) IsSame (λ _. Unit {0}) (λ _. Unit {0}) (λ _. Unit {0}) (λ x y e. tt) same_step (λ x y e. tt) (λ x y e. tt) (λ x y e. tt)

pub first_same : (a b : OccType) (base : Primitive) → base_of a ≡ Some base → fits a b ≡ true → a ≡ b
unfolding NamedOver
first_same a b base is e = fits_same a b e (inl (base, is))

pub second_same : (a b : OccType) (base : Primitive) → base_of b ≡ Some base → fits a b ≡ true → a ≡ b
unfolding NamedOver
second_same a b base is e = fits_same a b e (inr (base, is))

pub base_there : (o : Option Primitive) (base : Primitive) → number o ≡ Some base → (inner : Primitive) × (o ≡ Some inner)
base_there None base is = absurd cc
base_there (Some x) base is = (x, refl)

-- a type that is no array without a name fits none
pub never_array : (to : OccType) (n : Option ℕ) (inner : OccType) → as_array to ≡ None → fits to (t.Array n inner) ≡ true → ⊥
never_array to n inner none e = by (out-OccType to) (roll-out-OccType to) where
  by : (y : Layer) → roll-OccType y ≡ to → ⊥
  by (OccType-F.Primitive x) is = let same = sym (t.rolls-Primitive x) ∙ is in
      cc (sym (fits_of_primitive x (t.Array n inner)) ∙ ap (λ (u : OccType). fits u (t.Array n inner)) same ∙ e, as_primitive_at_array n inner)
  by (OccType-F.Array m u) is = let same = sym (t.rolls-Array m u) ∙ is in cc (sym (as_array_at_array m u) ∙ ap as_array same ∙ none)
  by (OccType-F.Record packing fields) is = let same = sym (t.rolls-Record packing fields) ∙ is in
      cc (sym (fits_of_record packing fields (t.Array n inner)) ∙ ap (λ (u : OccType). fits u (t.Array n inner)) same ∙ e, as_record_at_array n inner)
  by (OccType-F.Named name u) is = let same = sym (t.rolls-Named name u) ∙ is in
      cc (sym (fits_of_named name u (t.Array n inner)) ∙ ap (λ (u : OccType). fits u (t.Array n inner)) same ∙ e, as_named_at_array n inner)
  by (OccType-F.Channel c) is = let same = sym (t.rolls-Channel c) ∙ is in
      cc (sym (fits_of_channel c (t.Array n inner)) ∙ ap (λ (u : OccType). fits u (t.Array n inner)) same ∙ e, as_channel_at_array n inner)
  by OccType-F.Timer is = let same = sym t.rolls-Timer ∙ is in cc (sym (fits_of_timer (t.Array n inner)) ∙ ap (λ (u : OccType). fits u (t.Array n inner)) same ∙ e, is_timer_at_array n inner)
  by OccType-F.Unknown is = let same = sym t.rolls-Unknown ∙ is in cc (sym (fits_of_unknown (t.Array n inner)) ∙ ap (λ (u : OccType). fits u (t.Array n inner)) same ∙ e, is_unknown_at_array n inner)

pub number_fits : (of : OccType) (base : Primitive) → number (base_of of) ≡ Some base → fits of of ≡ true
number_fits of base is = let x = base_there (base_of of) base is in fits_itself of x.0 x.1

pub named_fits_it : (of : OccType) (base : Primitive) → base_of of ≡ Some base → fits of of ≡ true
named_fits_it of base is = fits_itself of base is
