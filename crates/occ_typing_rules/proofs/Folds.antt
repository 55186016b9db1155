-- Dimensions of types, and records in them, form by form.
use Rattle.std.proofs.Common.{◌≡◌, ℕ, List, [], ◌∷◌, map, Option, Some, Bool, false, refl, ap, sym, ◌∙◌}
use Rattle.occ_types.specs.Unknown.{any_of}
use Rattle.occ_types.specs.View.{array_layer, as_array, of_component}
use Rattle.occ_types.specs.declared.types.Field.{Field, out-Field}
use Rattle.occ_types.specs.declared.types.Item.TheFolds.{fold-OccType, fold-Field, fold-roll-OccType, fold-roll-Field}
use Rattle.occ_types.specs.declared.types.Item.TheOpen.{OccType-F}
use Rattle.occ_types.specs.declared.types.Item.TheViews.{out-roll-OccType, roll-out-Field}
use Rattle.occ_types.specs.declared.types.OccType.{OccType}
use Rattle.occ_types.specs.declared.types.OccType.TheVariants as t
use Rattle.occ_types.specs.declared.types.Packing.{Packing}
use Rattle.occ_types.specs.declared.types.Protocol.{Protocol}
use Rattle.occ_types.specs.declared.value.Primitive.{Primitive}
use Rattle.occ_typing_rules.specs.Dimensions.{dimensions, dimensions_step, fields_hold_plain_record, holds_plain_record, innermost, innermost_step, plain_field_step, plain_step, record_of, sized, sized_array, sized_in, sized_step}

as_array_at_array : (n : Option ℕ) (inner : OccType) → as_array (t.Array n inner) ≡ Some (n, inner)
unfolding as_array
as_array_at_array n inner = ap as_array (sym (t.rolls-Array n inner)) ∙ ap array_layer (out-roll-OccType (OccType-F.Array n inner))

pub dimensions_of_primitive : (x : Primitive) → dimensions (t.Primitive x) ≡ []
dimensions_of_primitive x = ap dimensions (sym (t.rolls-Primitive x)) ∙ fold-roll-OccType (Unit {0}) (List (Option ℕ)) (Unit {0}) (Unit {0}) (Unit {0}) (λ _. tt) dimensions_step (λ _. tt) (λ _. tt) (λ _. tt) (OccType-F.Primitive x)

pub dimensions_of_array : (n : Option ℕ) (inner : OccType) → dimensions (t.Array n inner) ≡ n ∷ dimensions inner
dimensions_of_array n inner = ap dimensions (sym (t.rolls-Array n inner)) ∙ fold-roll-OccType (Unit {0}) (List (Option ℕ)) (Unit {0}) (Unit {0}) (Unit {0}) (λ _. tt) dimensions_step (λ _. tt) (λ _. tt) (λ _. tt) (OccType-F.Array n inner)

pub dimensions_of_record : (packing : Packing) (fields : List Field) → dimensions (t.Record packing fields) ≡ []
dimensions_of_record packing fields = ap dimensions (sym (t.rolls-Record packing fields)) ∙ fold-roll-OccType (Unit {0}) (List (Option ℕ)) (Unit {0}) (Unit {0}) (Unit {0}) (λ _. tt) dimensions_step (λ _. tt) (λ _. tt) (λ _. tt) (OccType-F.Record packing fields)

pub dimensions_of_named : (name : List ℕ) (inner : OccType) → dimensions (t.Named name inner) ≡ []
dimensions_of_named name inner = ap dimensions (sym (t.rolls-Named name inner)) ∙ fold-roll-OccType (Unit {0}) (List (Option ℕ)) (Unit {0}) (Unit {0}) (Unit {0}) (λ _. tt) dimensions_step (λ _. tt) (λ _. tt) (λ _. tt) (OccType-F.Named name inner)

pub dimensions_of_channel : (carried : Protocol) → dimensions (t.Channel carried) ≡ []
dimensions_of_channel carried = ap dimensions (sym (t.rolls-Channel carried)) ∙ fold-roll-OccType (Unit {0}) (List (Option ℕ)) (Unit {0}) (Unit {0}) (Unit {0}) (λ _. tt) dimensions_step (λ _. tt) (λ _. tt) (λ _. tt) (OccType-F.Channel carried)

pub dimensions_of_timer : dimensions t.Timer ≡ []
dimensions_of_timer = ap dimensions (sym t.rolls-Timer) ∙ fold-roll-OccType (Unit {0}) (List (Option ℕ)) (Unit {0}) (Unit {0}) (Unit {0}) (λ _. tt) dimensions_step (λ _. tt) (λ _. tt) (λ _. tt) OccType-F.Timer

pub dimensions_of_unknown : dimensions t.Unknown ≡ []
dimensions_of_unknown = ap dimensions (sym t.rolls-Unknown) ∙ fold-roll-OccType (Unit {0}) (List (Option ℕ)) (Unit {0}) (Unit {0}) (Unit {0}) (λ _. tt) dimensions_step (λ _. tt) (λ _. tt) (λ _. tt) OccType-F.Unknown

pub innermost_of_primitive : (x : Primitive) → innermost (t.Primitive x) ≡ (t.Primitive x)
unfolding innermost
innermost_of_primitive x = ap (λ (f : OccType → OccType). f (t.Primitive x)) (ap (fold-OccType (Unit {0}) (OccType → OccType) (Unit {0}) (Unit {0}) (Unit {0}) (λ _. tt) innermost_step (λ _. tt) (λ _. tt) (λ _. tt)) (sym (t.rolls-Primitive x)) ∙ fold-roll-OccType (Unit {0}) (OccType → OccType) (Unit {0}) (Unit {0}) (Unit {0}) (λ _. tt) innermost_step (λ _. tt) (λ _. tt) (λ _. tt) (OccType-F.Primitive x))

pub innermost_of_array : (n : Option ℕ) (inner : OccType) → innermost (t.Array n inner) ≡ innermost inner
unfolding innermost
innermost_of_array n inner = ap (λ (f : OccType → OccType). f (t.Array n inner)) (ap (fold-OccType (Unit {0}) (OccType → OccType) (Unit {0}) (Unit {0}) (Unit {0}) (λ _. tt) innermost_step (λ _. tt) (λ _. tt) (λ _. tt)) (sym (t.rolls-Array n inner)) ∙ fold-roll-OccType (Unit {0}) (OccType → OccType) (Unit {0}) (Unit {0}) (Unit {0}) (λ _. tt) innermost_step (λ _. tt) (λ _. tt) (λ _. tt) (OccType-F.Array n inner)) ∙ ap (of_component (t.Array n inner) (fold-OccType (Unit {0}) (OccType → OccType) (Unit {0}) (Unit {0}) (Unit {0}) (λ _. tt) innermost_step (λ _. tt) (λ _. tt) (λ _. tt) inner)) (as_array_at_array n inner)

pub innermost_of_record : (packing : Packing) (fields : List Field) → innermost (t.Record packing fields) ≡ (t.Record packing fields)
unfolding innermost
innermost_of_record packing fields = ap (λ (f : OccType → OccType). f (t.Record packing fields)) (ap (fold-OccType (Unit {0}) (OccType → OccType) (Unit {0}) (Unit {0}) (Unit {0}) (λ _. tt) innermost_step (λ _. tt) (λ _. tt) (λ _. tt)) (sym (t.rolls-Record packing fields)) ∙ fold-roll-OccType (Unit {0}) (OccType → OccType) (Unit {0}) (Unit {0}) (Unit {0}) (λ _. tt) innermost_step (λ _. tt) (λ _. tt) (λ _. tt) (OccType-F.Record packing fields))

pub innermost_of_named : (name : List ℕ) (inner : OccType) → innermost (t.Named name inner) ≡ (t.Named name inner)
unfolding innermost
innermost_of_named name inner = ap (λ (f : OccType → OccType). f (t.Named name inner)) (ap (fold-OccType (Unit {0}) (OccType → OccType) (Unit {0}) (Unit {0}) (Unit {0}) (λ _. tt) innermost_step (λ _. tt) (λ _. tt) (λ _. tt)) (sym (t.rolls-Named name inner)) ∙ fold-roll-OccType (Unit {0}) (OccType → OccType) (Unit {0}) (Unit {0}) (Unit {0}) (λ _. tt) innermost_step (λ _. tt) (λ _. tt) (λ _. tt) (OccType-F.Named name inner))

pub innermost_of_channel : (carried : Protocol) → innermost (t.Channel carried) ≡ (t.Channel carried)
unfolding innermost
innermost_of_channel carried = ap (λ (f : OccType → OccType). f (t.Channel carried)) (ap (fold-OccType (Unit {0}) (OccType → OccType) (Unit {0}) (Unit {0}) (Unit {0}) (λ _. tt) innermost_step (λ _. tt) (λ _. tt) (λ _. tt)) (sym (t.rolls-Channel carried)) ∙ fold-roll-OccType (Unit {0}) (OccType → OccType) (Unit {0}) (Unit {0}) (Unit {0}) (λ _. tt) innermost_step (λ _. tt) (λ _. tt) (λ _. tt) (OccType-F.Channel carried))

pub innermost_of_timer : innermost t.Timer ≡ t.Timer
unfolding innermost
innermost_of_timer = ap (λ (f : OccType → OccType). f t.Timer) (ap (fold-OccType (Unit {0}) (OccType → OccType) (Unit {0}) (Unit {0}) (Unit {0}) (λ _. tt) innermost_step (λ _. tt) (λ _. tt) (λ _. tt)) (sym t.rolls-Timer) ∙ fold-roll-OccType (Unit {0}) (OccType → OccType) (Unit {0}) (Unit {0}) (Unit {0}) (λ _. tt) innermost_step (λ _. tt) (λ _. tt) (λ _. tt) OccType-F.Timer)

pub innermost_of_unknown : innermost t.Unknown ≡ t.Unknown
unfolding innermost
innermost_of_unknown = ap (λ (f : OccType → OccType). f t.Unknown) (ap (fold-OccType (Unit {0}) (OccType → OccType) (Unit {0}) (Unit {0}) (Unit {0}) (λ _. tt) innermost_step (λ _. tt) (λ _. tt) (λ _. tt)) (sym t.rolls-Unknown) ∙ fold-roll-OccType (Unit {0}) (OccType → OccType) (Unit {0}) (Unit {0}) (Unit {0}) (λ _. tt) innermost_step (λ _. tt) (λ _. tt) (λ _. tt) OccType-F.Unknown)

pub sized_of_primitive : (k : ℕ) (x : Primitive) → sized k (t.Primitive x) ≡ (t.Primitive x)
unfolding sized
sized_of_primitive k x = ap (λ (f : OccType → OccType). f (t.Primitive x)) (ap (fold-OccType (Unit {0}) (OccType → OccType) (Unit {0}) (Unit {0}) (Unit {0}) (λ _. tt) (sized_step k) (λ _. tt) (λ _. tt) (λ _. tt)) (sym (t.rolls-Primitive x)) ∙ fold-roll-OccType (Unit {0}) (OccType → OccType) (Unit {0}) (Unit {0}) (Unit {0}) (λ _. tt) (sized_step k) (λ _. tt) (λ _. tt) (λ _. tt) (OccType-F.Primitive x))

pub sized_of_array : (k : ℕ) (n : Option ℕ) (inner : OccType) → sized k (t.Array n inner) ≡ sized_array n k inner (sized k inner)
unfolding sized
sized_of_array k n inner = ap (λ (f : OccType → OccType). f (t.Array n inner)) (ap (fold-OccType (Unit {0}) (OccType → OccType) (Unit {0}) (Unit {0}) (Unit {0}) (λ _. tt) (sized_step k) (λ _. tt) (λ _. tt) (λ _. tt)) (sym (t.rolls-Array n inner)) ∙ fold-roll-OccType (Unit {0}) (OccType → OccType) (Unit {0}) (Unit {0}) (Unit {0}) (λ _. tt) (sized_step k) (λ _. tt) (λ _. tt) (λ _. tt) (OccType-F.Array n inner)) ∙ ap (sized_in k (t.Array n inner) (fold-OccType (Unit {0}) (OccType → OccType) (Unit {0}) (Unit {0}) (Unit {0}) (λ _. tt) (sized_step k) (λ _. tt) (λ _. tt) (λ _. tt) inner)) (as_array_at_array n inner)

pub sized_of_record : (k : ℕ) (packing : Packing) (fields : List Field) → sized k (t.Record packing fields) ≡ (t.Record packing fields)
unfolding sized
sized_of_record k packing fields = ap (λ (f : OccType → OccType). f (t.Record packing fields)) (ap (fold-OccType (Unit {0}) (OccType → OccType) (Unit {0}) (Unit {0}) (Unit {0}) (λ _. tt) (sized_step k) (λ _. tt) (λ _. tt) (λ _. tt)) (sym (t.rolls-Record packing fields)) ∙ fold-roll-OccType (Unit {0}) (OccType → OccType) (Unit {0}) (Unit {0}) (Unit {0}) (λ _. tt) (sized_step k) (λ _. tt) (λ _. tt) (λ _. tt) (OccType-F.Record packing fields))

pub sized_of_named : (k : ℕ) (name : List ℕ) (inner : OccType) → sized k (t.Named name inner) ≡ (t.Named name inner)
unfolding sized
sized_of_named k name inner = ap (λ (f : OccType → OccType). f (t.Named name inner)) (ap (fold-OccType (Unit {0}) (OccType → OccType) (Unit {0}) (Unit {0}) (Unit {0}) (λ _. tt) (sized_step k) (λ _. tt) (λ _. tt) (λ _. tt)) (sym (t.rolls-Named name inner)) ∙ fold-roll-OccType (Unit {0}) (OccType → OccType) (Unit {0}) (Unit {0}) (Unit {0}) (λ _. tt) (sized_step k) (λ _. tt) (λ _. tt) (λ _. tt) (OccType-F.Named name inner))

pub sized_of_channel : (k : ℕ) (carried : Protocol) → sized k (t.Channel carried) ≡ (t.Channel carried)
unfolding sized
sized_of_channel k carried = ap (λ (f : OccType → OccType). f (t.Channel carried)) (ap (fold-OccType (Unit {0}) (OccType → OccType) (Unit {0}) (Unit {0}) (Unit {0}) (λ _. tt) (sized_step k) (λ _. tt) (λ _. tt) (λ _. tt)) (sym (t.rolls-Channel carried)) ∙ fold-roll-OccType (Unit {0}) (OccType → OccType) (Unit {0}) (Unit {0}) (Unit {0}) (λ _. tt) (sized_step k) (λ _. tt) (λ _. tt) (λ _. tt) (OccType-F.Channel carried))

pub sized_of_timer : (k : ℕ) → sized k t.Timer ≡ t.Timer
unfolding sized
sized_of_timer k = ap (λ (f : OccType → OccType). f t.Timer) (ap (fold-OccType (Unit {0}) (OccType → OccType) (Unit {0}) (Unit {0}) (Unit {0}) (λ _. tt) (sized_step k) (λ _. tt) (λ _. tt) (λ _. tt)) (sym t.rolls-Timer) ∙ fold-roll-OccType (Unit {0}) (OccType → OccType) (Unit {0}) (Unit {0}) (Unit {0}) (λ _. tt) (sized_step k) (λ _. tt) (λ _. tt) (λ _. tt) OccType-F.Timer)

pub sized_of_unknown : (k : ℕ) → sized k t.Unknown ≡ t.Unknown
unfolding sized
sized_of_unknown k = ap (λ (f : OccType → OccType). f t.Unknown) (ap (fold-OccType (Unit {0}) (OccType → OccType) (Unit {0}) (Unit {0}) (Unit {0}) (λ _. tt) (sized_step k) (λ _. tt) (λ _. tt) (λ _. tt)) (sym t.rolls-Unknown) ∙ fold-roll-OccType (Unit {0}) (OccType → OccType) (Unit {0}) (Unit {0}) (Unit {0}) (λ _. tt) (sized_step k) (λ _. tt) (λ _. tt) (λ _. tt) OccType-F.Unknown)

field_folds : (f : Field) → fold-Field (Unit {0}) Bool (Unit {0}) Bool (Unit {0}) (λ _. tt) plain_step (λ _. tt) plain_field_step (λ _. tt) f ≡ holds_plain_record f.of
field_folds f = ap (fold-Field (Unit {0}) Bool (Unit {0}) Bool (Unit {0}) (λ _. tt) plain_step (λ _. tt) plain_field_step (λ _. tt)) (sym (roll-out-Field f)) ∙ fold-roll-Field (Unit {0}) Bool (Unit {0}) Bool (Unit {0}) (λ _. tt) plain_step (λ _. tt) plain_field_step (λ _. tt) (out-Field f)

fields_fold : (fs : List Field) → map (fold-Field (Unit {0}) Bool (Unit {0}) Bool (Unit {0}) (λ _. tt) plain_step (λ _. tt) plain_field_step (λ _. tt)) fs ≡ fields_hold_plain_record fs
fields_fold [] = refl
fields_fold (f ∷ fs) = ap (λ (x : Bool). x ∷ map (fold-Field (Unit {0}) Bool (Unit {0}) Bool (Unit {0}) (λ _. tt) plain_step (λ _. tt) plain_field_step (λ _. tt)) fs) (field_folds f) ∙ ap (λ (xs : List Bool). holds_plain_record f.of ∷ xs) (fields_fold fs)

pub plain_of_primitive : (x : Primitive) → holds_plain_record (t.Primitive x) ≡ false
plain_of_primitive x = ap holds_plain_record (sym (t.rolls-Primitive x)) ∙ fold-roll-OccType (Unit {0}) Bool (Unit {0}) Bool (Unit {0}) (λ _. tt) plain_step (λ _. tt) plain_field_step (λ _. tt) (OccType-F.Primitive x)

pub plain_of_array : (n : Option ℕ) (inner : OccType) → holds_plain_record (t.Array n inner) ≡ holds_plain_record inner
plain_of_array n inner = ap holds_plain_record (sym (t.rolls-Array n inner)) ∙ fold-roll-OccType (Unit {0}) Bool (Unit {0}) Bool (Unit {0}) (λ _. tt) plain_step (λ _. tt) plain_field_step (λ _. tt) (OccType-F.Array n inner)

pub plain_of_record : (packing : Packing) (fields : List Field) → holds_plain_record (t.Record packing fields) ≡ record_of packing (any_of (fields_hold_plain_record fields))
plain_of_record packing fields = ap holds_plain_record (sym (t.rolls-Record packing fields)) ∙ fold-roll-OccType (Unit {0}) Bool (Unit {0}) Bool (Unit {0}) (λ _. tt) plain_step (λ _. tt) plain_field_step (λ _. tt) (OccType-F.Record packing fields) ∙ ap (λ (xs : List Bool). record_of packing (any_of xs)) (fields_fold fields)

pub plain_of_named : (name : List ℕ) (inner : OccType) → holds_plain_record (t.Named name inner) ≡ holds_plain_record inner
plain_of_named name inner = ap holds_plain_record (sym (t.rolls-Named name inner)) ∙ fold-roll-OccType (Unit {0}) Bool (Unit {0}) Bool (Unit {0}) (λ _. tt) plain_step (λ _. tt) plain_field_step (λ _. tt) (OccType-F.Named name inner)

pub plain_of_channel : (carried : Protocol) → holds_plain_record (t.Channel carried) ≡ false
plain_of_channel carried = ap holds_plain_record (sym (t.rolls-Channel carried)) ∙ fold-roll-OccType (Unit {0}) Bool (Unit {0}) Bool (Unit {0}) (λ _. tt) plain_step (λ _. tt) plain_field_step (λ _. tt) (OccType-F.Channel carried)

pub plain_of_timer : holds_plain_record t.Timer ≡ false
plain_of_timer = ap holds_plain_record (sym t.rolls-Timer) ∙ fold-roll-OccType (Unit {0}) Bool (Unit {0}) Bool (Unit {0}) (λ _. tt) plain_step (λ _. tt) plain_field_step (λ _. tt) OccType-F.Timer

pub plain_of_unknown : holds_plain_record t.Unknown ≡ false
plain_of_unknown = ap holds_plain_record (sym t.rolls-Unknown) ∙ fold-roll-OccType (Unit {0}) Bool (Unit {0}) Bool (Unit {0}) (λ _. tt) plain_step (λ _. tt) plain_field_step (λ _. tt) OccType-F.Unknown

pub ruleset dimension_rules = (dimensions_of_primitive, dimensions_of_array, dimensions_of_record, dimensions_of_named, dimensions_of_channel, dimensions_of_timer, dimensions_of_unknown, innermost_of_primitive, innermost_of_array, innermost_of_record, innermost_of_named, innermost_of_channel, innermost_of_timer, innermost_of_unknown, sized_of_primitive, sized_of_array, sized_of_record, sized_of_named, sized_of_channel, sized_of_timer, sized_of_unknown, plain_of_primitive, plain_of_array, plain_of_record, plain_of_named, plain_of_channel, plain_of_timer, plain_of_unknown)
