-- Types that hold nothing unknown, and how many dimensions stand in front of a type.
use Rattle.std.proofs.Common.{◌≡◌, ◌∙◌, ◌&&◌, ◌||◌, ℕ, suc, Bool, true, false, List, [], ◌∷◌, map, length, Option, Some, None, if◌then◌else◌, refl, ap, sym, subst}
use Rattle.std.specs.Str.{bytes_eq}
use Rattle.occ_typing_operands.specs.Settling.{base_of, number}
use Rattle.occ_typing_operands.specs.Parts.{field_named}
use Rattle.occ_typing_rules.specs.Dimensions.{dimensions}
use Rattle.occ_typing_rules.proofs.Folds.{dimensions_of_array, dimensions_of_channel, dimensions_of_named, dimensions_of_primitive, dimensions_of_record, dimensions_of_timer, dimensions_of_unknown}
use Rattle.occ_types.specs.declared.types.Field.{Field}
use Rattle.occ_types.specs.declared.types.Item.{Item}
use Rattle.occ_types.specs.declared.types.Item.TheFolds.{ind-OccType, map-OccType}
use Rattle.occ_types.specs.declared.types.Item.TheOpen.{OccType-F}
use Rattle.occ_types.specs.declared.types.Item.TheViews.{roll-out-OccType}
use Rattle.occ_types.specs.declared.types.OccType.{OccType, out-OccType, roll-OccType}
use Rattle.occ_types.specs.declared.types.OccType.TheVariants as t
use Rattle.occ_types.specs.declared.types.Packing.{Packing}
use Rattle.occ_types.specs.declared.types.Protocol.{Protocol}
use Rattle.occ_types.specs.declared.types.Tag.{Tag}
use Rattle.occ_types.specs.declared.value.Primitive.{Primitive}
use Rattle.occ_types.specs.declared.value.Primitive.TheVariants as p
use Rattle.occ_types.specs.Fits.{array_fits, channel_fits, counts_fit, fits, named_fits, primitive_fits, record_fits, unnamed}
use Rattle.occ_types.specs.Unknown.{any_of, fields_unknown, holds_unknown}
use Rattle.occ_types.specs.View.{Layer, array_layer, as_array, as_channel, as_named, as_primitive, as_record, channel_layer, fields_in, is_timer, is_unknown, named_layer, primitive_layer, record_layer, second, timer_layer, unknown_layer}
use Rattle.occ_types.proofs.Agreeing.{as_primitive_at_array, fits_of_array, fits_of_channel, fits_of_named, fits_of_primitive, fits_of_record, fits_of_timer, fits_of_unknown, unnamed_of_array, unnamed_of_channel, unnamed_of_named, unnamed_of_primitive, unnamed_of_record, unnamed_of_timer, unnamed_of_unknown}
use Rattle.occ_types.proofs.Unknowns.{unknown_array, unknown_named, unknown_primitive, unknown_record, unknown_unknown}

-- ---- induction on types

abbrev Any : Type 0 → Type 0
Any X = (x : X) × Unit {0}

abbrev With : (OccType → Type 0) → Type 0
With P = (u : OccType) × P u

pub record TypeSteps (P : OccType → Type 0) : Type 0 where
  pub primitive : (x : Primitive) → P (t.Primitive x)
  pub array : (n : Option ℕ) (inner : OccType) → P inner → P (t.Array n inner)
  pub record_type : (packing : Packing) (fields : List Field) → P (t.Record packing fields)
  pub named : (name : List ℕ) (inner : OccType) → P inner → P (t.Named name inner)
  pub channel : (c : Protocol) → P (t.Channel c)
  pub timer : P t.Timer
  pub unknown : P t.Unknown

type_step : {P : OccType → Type 0} → TypeSteps P → (x : OccType-F Item OccType Protocol Field Tag) (y : OccType-F (Any Item) (With P) (Any Protocol) (Any Field) (Any Tag)) → map-OccType _ _ _ _ _ _ _ _ _ _ (λ e. e.0) (λ e. e.0) (λ e. e.0) (λ e. e.0) (λ e. e.0) y ≡ x → P (roll-OccType x)
type_step {P} steps x y is = subst (λ z. P (roll-OccType z)) is (by y) where
  by : (y : OccType-F (Any Item) (With P) (Any Protocol) (Any Field) (Any Tag)) → P (roll-OccType (map-OccType _ _ _ _ _ _ _ _ _ _ (λ e. e.0) (λ e. e.0) (λ e. e.0) (λ e. e.0) (λ e. e.0) y))
  by (OccType-F.Primitive x) = subst P (sym (t.rolls-Primitive x)) (steps.primitive x)
  by (OccType-F.Array n inner) = subst P (sym (t.rolls-Array n inner.0)) (steps.array n inner.0 inner.1)
  by (OccType-F.Record packing fields) = subst P (sym (t.rolls-Record packing (map (λ e. e.0) fields))) (steps.record_type packing (map (λ e. e.0) fields))
  by (OccType-F.Named name inner) = subst P (sym (t.rolls-Named name inner.0)) (steps.named name inner.0 inner.1)
  by (OccType-F.Channel c) = subst P (sym (t.rolls-Channel c.0)) (steps.channel c.0)
  by OccType-F.Timer = subst P (sym t.rolls-Timer) steps.timer
  by OccType-F.Unknown = subst P (sym t.rolls-Unknown) steps.unknown

pub every_type : {P : OccType → Type 0} → TypeSteps P → (of : OccType) → P of
every_type {P} steps = ind-OccType (λ _. Unit {0}) P (λ _. Unit {0}) (λ _. Unit {0}) (λ _. Unit {0}) (λ x y e. tt) (type_step steps) (λ x y e. tt) (λ x y e. tt) (λ x y e. tt)

-- ---- dimensions

abbrev pub depth : OccType → ℕ
depth of = length (dimensions of)

pub depth_array : (n : Option ℕ) (inner : OccType) → depth (t.Array n inner) ≡ suc (depth inner)
depth_array n inner = ap length (dimensions_of_array n inner)

flat_primitive_layer : (y : Layer) (x : Primitive) → primitive_layer y ≡ Some x → dimensions (roll-OccType y) ≡ []
flat_primitive_layer (OccType-F.Primitive x) z e = ap dimensions (t.rolls-Primitive x) ∙ (dimensions_of_primitive x)
flat_primitive_layer (OccType-F.Array n inner) z e = absurd cc
flat_primitive_layer (OccType-F.Record packing fields) z e = absurd cc
flat_primitive_layer (OccType-F.Named name inner) z e = absurd cc
flat_primitive_layer (OccType-F.Channel carried) z e = absurd cc
flat_primitive_layer OccType-F.Timer z e = absurd cc
flat_primitive_layer OccType-F.Unknown z e = absurd cc

pub flat_primitive : (u : OccType) (x : Primitive) → as_primitive u ≡ Some x → depth u ≡ 0
unfolding as_primitive
flat_primitive u x e = ap length (ap dimensions (sym (roll-out-OccType u)) ∙ flat_primitive_layer (out-OccType u) x e)

flat_record_layer : (y : Layer) (x : Packing × List Field) → record_layer y ≡ Some x → dimensions (roll-OccType y) ≡ []
flat_record_layer (OccType-F.Primitive x) z e = absurd cc
flat_record_layer (OccType-F.Array n inner) z e = absurd cc
flat_record_layer (OccType-F.Record packing fields) z e = ap dimensions (t.rolls-Record packing fields) ∙ (dimensions_of_record packing fields)
flat_record_layer (OccType-F.Named name inner) z e = absurd cc
flat_record_layer (OccType-F.Channel carried) z e = absurd cc
flat_record_layer OccType-F.Timer z e = absurd cc
flat_record_layer OccType-F.Unknown z e = absurd cc

pub flat_record : (u : OccType) (x : Packing × List Field) → as_record u ≡ Some x → depth u ≡ 0
unfolding as_record
flat_record u x e = ap length (ap dimensions (sym (roll-out-OccType u)) ∙ flat_record_layer (out-OccType u) x e)

flat_named_layer : (y : Layer) (x : List ℕ × OccType) → named_layer y ≡ Some x → dimensions (roll-OccType y) ≡ []
flat_named_layer (OccType-F.Primitive x) z e = absurd cc
flat_named_layer (OccType-F.Array n inner) z e = absurd cc
flat_named_layer (OccType-F.Record packing fields) z e = absurd cc
flat_named_layer (OccType-F.Named name inner) z e = ap dimensions (t.rolls-Named name inner) ∙ (dimensions_of_named name inner)
flat_named_layer (OccType-F.Channel carried) z e = absurd cc
flat_named_layer OccType-F.Timer z e = absurd cc
flat_named_layer OccType-F.Unknown z e = absurd cc

pub flat_named : (u : OccType) (x : List ℕ × OccType) → as_named u ≡ Some x → depth u ≡ 0
unfolding as_named
flat_named u x e = ap length (ap dimensions (sym (roll-out-OccType u)) ∙ flat_named_layer (out-OccType u) x e)

flat_channel_layer : (y : Layer) (x : Protocol) → channel_layer y ≡ Some x → dimensions (roll-OccType y) ≡ []
flat_channel_layer (OccType-F.Primitive x) z e = absurd cc
flat_channel_layer (OccType-F.Array n inner) z e = absurd cc
flat_channel_layer (OccType-F.Record packing fields) z e = absurd cc
flat_channel_layer (OccType-F.Named name inner) z e = absurd cc
flat_channel_layer (OccType-F.Channel carried) z e = ap dimensions (t.rolls-Channel carried) ∙ (dimensions_of_channel carried)
flat_channel_layer OccType-F.Timer z e = absurd cc
flat_channel_layer OccType-F.Unknown z e = absurd cc

pub flat_channel : (u : OccType) (x : Protocol) → as_channel u ≡ Some x → depth u ≡ 0
unfolding as_channel
flat_channel u x e = ap length (ap dimensions (sym (roll-out-OccType u)) ∙ flat_channel_layer (out-OccType u) x e)

flat_timer_layer : (y : Layer) → timer_layer y ≡ true → dimensions (roll-OccType y) ≡ []
flat_timer_layer (OccType-F.Primitive x) e = absurd cc
flat_timer_layer (OccType-F.Array n inner) e = absurd cc
flat_timer_layer (OccType-F.Record packing fields) e = absurd cc
flat_timer_layer (OccType-F.Named name inner) e = absurd cc
flat_timer_layer (OccType-F.Channel carried) e = absurd cc
flat_timer_layer OccType-F.Timer e = ap dimensions t.rolls-Timer ∙ dimensions_of_timer
flat_timer_layer OccType-F.Unknown e = absurd cc

pub flat_timer : (u : OccType) → is_timer u ≡ true → depth u ≡ 0
unfolding is_timer
flat_timer u e = ap length (ap dimensions (sym (roll-out-OccType u)) ∙ flat_timer_layer (out-OccType u) e)

flat_unknown_layer : (y : Layer) → unknown_layer y ≡ true → dimensions (roll-OccType y) ≡ []
flat_unknown_layer (OccType-F.Primitive x) e = absurd cc
flat_unknown_layer (OccType-F.Array n inner) e = absurd cc
flat_unknown_layer (OccType-F.Record packing fields) e = absurd cc
flat_unknown_layer (OccType-F.Named name inner) e = absurd cc
flat_unknown_layer (OccType-F.Channel carried) e = absurd cc
flat_unknown_layer OccType-F.Timer e = absurd cc
flat_unknown_layer OccType-F.Unknown e = ap dimensions t.rolls-Unknown ∙ dimensions_of_unknown

pub flat_unknown : (u : OccType) → is_unknown u ≡ true → depth u ≡ 0
unfolding is_unknown
flat_unknown u e = ap length (ap dimensions (sym (roll-out-OccType u)) ∙ flat_unknown_layer (out-OccType u) e)

flat_none_layer : (y : Layer) → array_layer y ≡ None → dimensions (roll-OccType y) ≡ []
flat_none_layer (OccType-F.Primitive x) e = ap dimensions (t.rolls-Primitive x) ∙ (dimensions_of_primitive x)
flat_none_layer (OccType-F.Array n inner) e = absurd cc
flat_none_layer (OccType-F.Record packing fields) e = ap dimensions (t.rolls-Record packing fields) ∙ (dimensions_of_record packing fields)
flat_none_layer (OccType-F.Named name inner) e = ap dimensions (t.rolls-Named name inner) ∙ (dimensions_of_named name inner)
flat_none_layer (OccType-F.Channel carried) e = ap dimensions (t.rolls-Channel carried) ∙ (dimensions_of_channel carried)
flat_none_layer OccType-F.Timer e = ap dimensions t.rolls-Timer ∙ dimensions_of_timer
flat_none_layer OccType-F.Unknown e = ap dimensions t.rolls-Unknown ∙ dimensions_of_unknown

pub flat_none : (u : OccType) → as_array u ≡ None → depth u ≡ 0
unfolding as_array
flat_none u e = ap length (ap dimensions (sym (roll-out-OccType u)) ∙ flat_none_layer (out-OccType u) e)

abbrev array_or : Option (Option ℕ × OccType) → OccType → OccType
array_or None u = u
array_or (Some parts) u = t.Array parts.0 parts.1

some_layer : (y : Layer) (parts : Option ℕ × OccType) → array_layer y ≡ Some parts → roll-OccType y ≡ t.Array parts.0 parts.1
some_layer (OccType-F.Primitive x) parts e = absurd cc
some_layer (OccType-F.Array n inner) parts e = t.rolls-Array n inner ∙ ap (λ (o : Option (Option ℕ × OccType)). array_or o (t.Array n inner)) e
some_layer (OccType-F.Record packing fields) parts e = absurd cc
some_layer (OccType-F.Named name inner) parts e = absurd cc
some_layer (OccType-F.Channel carried) parts e = absurd cc
some_layer OccType-F.Timer parts e = absurd cc
some_layer OccType-F.Unknown parts e = absurd cc

-- what is an array
pub array_is : (u : OccType) (parts : Option ℕ × OccType) → as_array u ≡ Some parts → u ≡ t.Array parts.0 parts.1
unfolding as_array
array_is u parts e = sym (roll-out-OccType u) ∙ some_layer (out-OccType u) parts e

pub depth_parts : (u : OccType) (parts : Option ℕ × OccType) → as_array u ≡ Some parts → depth u ≡ suc (depth parts.1)
depth_parts u parts e = ap depth (array_is u parts e) ∙ depth_array parts.0 parts.1

-- ---- types that fit have as many dimensions

abbrev FitsDepth : OccType → Type 0
FitsDepth a = (b : OccType) → fits a b ≡ true → depth a ≡ depth b

pub both_true : (a b : Bool) → (a && b) ≡ true → (a ≡ true) × (b ≡ true)
both_true true b e = (refl, e)
both_true false b e = absurd cc

array_fits_depth : (n : Option ℕ) (inner b : OccType) (o : Option (Option ℕ × OccType)) → FitsDepth inner → as_array b ≡ o → array_fits n (fits inner) o ≡ true → depth (t.Array n inner) ≡ depth b
array_fits_depth n inner b None below is e = absurd cc
array_fits_depth n inner b (Some parts) below is e =
    depth_array n inner ∙ ap suc (below parts.1 (both_true (counts_fit n parts.0) (fits inner parts.1) e).1) ∙ sym (depth_parts b parts is)

primitive_fits_depth : (x : Primitive) (b : OccType) (o : Option Primitive) → as_primitive b ≡ o → primitive_fits x o ≡ true → depth b ≡ 0
primitive_fits_depth x b None is e = absurd cc
primitive_fits_depth x b (Some y) is e = flat_primitive b y is

record_fits_depth : (packing : Packing) (fs : List (Field → Bool)) (b : OccType) (o : Option (Packing × List Field)) → as_record b ≡ o → record_fits packing fs o ≡ true → depth b ≡ 0
record_fits_depth packing fs b None is e = absurd cc
record_fits_depth packing fs b (Some y) is e = flat_record b y is

named_fits_depth : (name : List ℕ) (f : OccType → Bool) (b : OccType) (o : Option (List ℕ × OccType)) → as_named b ≡ o → named_fits name f o ≡ true → depth b ≡ 0
named_fits_depth name f b None is e = absurd cc
named_fits_depth name f b (Some y) is e = flat_named b y is

channel_fits_depth : (f : Protocol → Bool) (b : OccType) (o : Option Protocol) → as_channel b ≡ o → channel_fits f o ≡ true → depth b ≡ 0
channel_fits_depth f b None is e = absurd cc
channel_fits_depth f b (Some y) is e = flat_channel b y is

flat : (a b : OccType) → dimensions a ≡ [] → depth b ≡ 0 → depth a ≡ depth b
flat a b e f = ap length e ∙ sym f

pub fits_depth : (a : OccType) → FitsDepth a
fits_depth = every_type {P = FitsDepth} record {
  primitive = λ x b e. flat (t.Primitive x) b (dimensions_of_primitive x) (primitive_fits_depth x b _ refl (sym (fits_of_primitive x b) ∙ e));
  array = λ n inner below b e. array_fits_depth n inner b _ below refl (sym (fits_of_array n inner b) ∙ e);
  record_type = λ packing fields b e. flat (t.Record packing fields) b (dimensions_of_record packing fields) (record_fits_depth packing _ b _ refl (sym (fits_of_record packing fields b) ∙ e));
  named = λ name inner below b e. flat (t.Named name inner) b (dimensions_of_named name inner) (named_fits_depth name _ b _ refl (sym (fits_of_named name inner b) ∙ e));
  channel = λ c b e. flat (t.Channel c) b (dimensions_of_channel c) (channel_fits_depth _ b _ refl (sym (fits_of_channel c b) ∙ e));
  timer = λ b e. flat t.Timer b dimensions_of_timer (flat_timer b (sym (fits_of_timer b) ∙ e));
  unknown = λ b e. flat t.Unknown b dimensions_of_unknown (flat_unknown b (sym (fits_of_unknown b) ∙ e));
}

-- a type that is a primitive one under its names has none
abbrev BaseFlat : OccType → Type 0
BaseFlat a = (x : Primitive) → base_of a ≡ Some x → depth a ≡ 0

pub base_flat : (a : OccType) → BaseFlat a
base_flat = every_type {P = BaseFlat} record {
  primitive = λ x y e. ap length (dimensions_of_primitive x);
  array = λ n inner below y e. let h : as_primitive (t.Array n inner) ≡ Some y = ap as_primitive (sym (unnamed_of_array n inner)) ∙ e in let g : None ≡ Some y = sym (as_primitive_at_array n inner) ∙ h in absurd cc;
  record_type = λ packing fields y e. ap length (dimensions_of_record packing fields);
  named = λ name inner below y e. ap length (dimensions_of_named name inner);
  channel = λ c y e. ap length (dimensions_of_channel c);
  timer = λ y e. ap length dimensions_of_timer;
  unknown = λ y e. ap length dimensions_of_unknown;
}

-- ---- nothing unknown

abbrev UnnamedHolds : OccType → Type 0
UnnamedHolds a = holds_unknown (unnamed a) ≡ holds_unknown a

pub unnamed_holds : (a : OccType) → UnnamedHolds a
unnamed_holds = every_type {P = UnnamedHolds} record {
  primitive = λ x. ap holds_unknown (unnamed_of_primitive x);
  array = λ n inner below. ap holds_unknown (unnamed_of_array n inner);
  record_type = λ packing fields. ap holds_unknown (unnamed_of_record packing fields);
  named = λ name inner below. ap holds_unknown (unnamed_of_named name inner) ∙ below ∙ sym (unknown_named name inner);
  channel = λ c. ap holds_unknown (unnamed_of_channel c);
  timer = ap holds_unknown unnamed_of_timer;
  unknown = ap holds_unknown unnamed_of_unknown;
}

pub parts_hold : (u : OccType) (parts : Option ℕ × OccType) → as_array u ≡ Some parts → holds_unknown parts.1 ≡ holds_unknown u
parts_hold u parts e = sym (unknown_array parts.0 parts.1) ∙ sym (ap holds_unknown (array_is u parts e))

abbrev fields_or : Option (List Field) → List Field
fields_or None = []
fields_or (Some fs) = fs

fields_layer : (y : Layer) (fs : List Field) → second (record_layer y) ≡ Some fs → any_of (fields_unknown fs) ≡ holds_unknown (roll-OccType y)
fields_layer (OccType-F.Primitive x) fs e = absurd cc
fields_layer (OccType-F.Array n inner) fs e = absurd cc
fields_layer (OccType-F.Record packing fields) fs e = ap (λ (o : Option (List Field)). any_of (fields_unknown (fields_or o))) (sym e) ∙ sym (unknown_record packing fields) ∙ sym (ap holds_unknown (t.rolls-Record packing fields))
fields_layer (OccType-F.Named name inner) fs e = absurd cc
fields_layer (OccType-F.Channel carried) fs e = absurd cc
fields_layer OccType-F.Timer fs e = absurd cc
fields_layer OccType-F.Unknown fs e = absurd cc

pub fields_hold : (u : OccType) (fs : List Field) → fields_in u ≡ Some fs → any_of (fields_unknown fs) ≡ holds_unknown u
unfolding as_record
fields_hold u fs e = fields_layer (out-OccType u) fs e ∙ ap holds_unknown (roll-out-OccType u)

known_layer : (y : Layer) → holds_unknown (roll-OccType y) ≡ false → unknown_layer y ≡ false
known_layer (OccType-F.Primitive x) e = refl
known_layer (OccType-F.Array n inner) e = refl
known_layer (OccType-F.Record packing fields) e = refl
known_layer (OccType-F.Named name inner) e = refl
known_layer (OccType-F.Channel carried) e = refl
known_layer OccType-F.Timer e = refl
known_layer OccType-F.Unknown e = let h : true ≡ false = sym unknown_unknown ∙ sym (ap holds_unknown t.rolls-Unknown) ∙ e in absurd cc

pub known_is : (u : OccType) → holds_unknown u ≡ false → is_unknown u ≡ false
unfolding is_unknown
known_is u e = known_layer (out-OccType u) (ap holds_unknown (roll-out-OccType u) ∙ e)

primitive_known_layer : (y : Layer) (x : Primitive) → primitive_layer y ≡ Some x → holds_unknown (roll-OccType y) ≡ false
primitive_known_layer (OccType-F.Primitive x) z e = ap holds_unknown (t.rolls-Primitive x) ∙ unknown_primitive x
primitive_known_layer (OccType-F.Array n inner) z e = absurd cc
primitive_known_layer (OccType-F.Record packing fields) z e = absurd cc
primitive_known_layer (OccType-F.Named name inner) z e = absurd cc
primitive_known_layer (OccType-F.Channel carried) z e = absurd cc
primitive_known_layer OccType-F.Timer z e = absurd cc
primitive_known_layer OccType-F.Unknown z e = absurd cc

pub primitive_known : (u : OccType) (x : Primitive) → as_primitive u ≡ Some x → holds_unknown u ≡ false
unfolding as_primitive
primitive_known u x e = ap holds_unknown (sym (roll-out-OccType u)) ∙ primitive_known_layer (out-OccType u) x e

pub base_known : (u : OccType) (x : Primitive) → base_of u ≡ Some x → holds_unknown u ≡ false
base_known u x e = sym (unnamed_holds u) ∙ primitive_known (unnamed u) x e

-- a number is what is asked
pub number_is : (o : Option Primitive) (x : Primitive) → number o ≡ Some x → o ≡ Some x
number_is None x e = absurd cc
number_is (Some p.Bool) x e = absurd cc
number_is (Some p.Byte) x e = e
number_is (Some p.Int16) x e = e
number_is (Some p.Int) x e = e
number_is (Some p.Int32) x e = e
number_is (Some p.Int64) x e = e

-- one field of those of which none is unknown
pub no_either : (a b : Bool) → (a || b) ≡ false → (a ≡ false) × (b ≡ false)
no_either true b e = absurd cc
no_either false b e = (refl, e)

abbrev of_or : Option OccType → OccType → OccType
of_or None u = u
of_or (Some v) u = v

field_first : (b : Bool) (name : List ℕ) (f : Field) (fs : List Field) (of : OccType) → ((g : OccType) → field_named name fs ≡ Some g → holds_unknown g ≡ false) → holds_unknown f.of ≡ false → (if b then Some f.of else field_named name fs) ≡ Some of → holds_unknown of ≡ false
field_first true name f fs of rest here e = let h : f.of ≡ of = ap (λ (o : Option OccType). of_or o f.of) e in subst (λ (u : OccType). holds_unknown u ≡ false) h here
field_first false name f fs of rest here e = rest of e

pub field_known : (name : List ℕ) (fs : List Field) (of : OccType) → any_of (fields_unknown fs) ≡ false → field_named name fs ≡ Some of → holds_unknown of ≡ false
field_known name [] of none e = absurd cc
field_known name (f ∷ fs) of none e =
    let parts = no_either (holds_unknown f.of) (any_of (fields_unknown fs)) none in
    field_first (bytes_eq f.name name) name f fs of (λ g h. field_known name fs g parts.1 h) parts.0 e
