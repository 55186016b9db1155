-- What is reported of a type dimension by dimension.
use Rattle.std.proofs.Common.{◌≡◌, ◌≢◌, ◌∙◌, ℕ, Bool, false, Option, ap, sym}
use Rattle.std.specs.Prelude.{◌||◌}
use Rattle.occ_types.specs.declared.types.Item.TheFolds.{fold-OccType, fold-roll-OccType}
use Rattle.occ_types.specs.declared.types.Item.TheOpen.{OccType-F}
use Rattle.occ_types.specs.declared.types.Item.TheViews.{roll-out-OccType}
use Rattle.occ_types.specs.declared.types.OccType.{OccType, out-OccType, roll-OccType}
use Rattle.occ_types.specs.declared.types.OccType.TheVariants as t
use Rattle.occ_types.specs.Size.{capped, is_over, product_of, size_of}
use Rattle.occ_types.specs.View.{Layer, of_component}
use Rattle.occ_types.proofs.Agreeing.{as_array_at_array}
use Rattle.occ_types.proofs.Sizes.{cut_product, size_array}
use Rattle.occ_types.specs.Large.{is_oversized, oversized_step}

abbrev oversized_fold : OccType → OccType → Bool
oversized_fold = fold-OccType (Unit {0}) (OccType → Bool) (Unit {0}) (Unit {0}) (Unit {0}) (λ _. tt) oversized_step (λ _. tt) (λ _. tt) (λ _. tt)

pub is_oversized_array : (n : Option ℕ) (inner : OccType) → is_oversized (t.Array n inner) ≡ (is_over (size_of (t.Array n inner)) || is_oversized inner)
unfolding is_oversized
is_oversized_array n inner =
    ap (λ (f : OccType → Bool). f (t.Array n inner)) (ap oversized_fold (sym (t.rolls-Array n inner)) ∙ fold-roll-OccType (Unit {0}) (OccType → Bool) (Unit {0}) (Unit {0}) (Unit {0}) (λ _. tt) oversized_step (λ _. tt) (λ _. tt) (λ _. tt) (OccType-F.Array n inner))
    ∙ ap (λ (p : Option (Option ℕ × OccType)). is_over (size_of (t.Array n inner)) || of_component false (oversized_fold inner) p) (as_array_at_array n inner)

is_oversized_layer : (y : Layer) → ((n : Option ℕ) (inner : OccType) → roll-OccType y ≢ t.Array n inner) → is_oversized (roll-OccType y) ≡ is_over (size_of (roll-OccType y))
unfolding is_oversized
is_oversized_layer (OccType-F.Array n inner) h = absurd (h n inner (t.rolls-Array n inner))
is_oversized_layer (OccType-F.Primitive x) h = ap (λ (f : OccType → Bool). f (roll-OccType (OccType-F.Primitive x))) (fold-roll-OccType (Unit {0}) (OccType → Bool) (Unit {0}) (Unit {0}) (Unit {0}) (λ _. tt) oversized_step (λ _. tt) (λ _. tt) (λ _. tt) (OccType-F.Primitive x))
is_oversized_layer (OccType-F.Record packing fields) h = ap (λ (f : OccType → Bool). f (roll-OccType (OccType-F.Record packing fields))) (fold-roll-OccType (Unit {0}) (OccType → Bool) (Unit {0}) (Unit {0}) (Unit {0}) (λ _. tt) oversized_step (λ _. tt) (λ _. tt) (λ _. tt) (OccType-F.Record packing fields))
is_oversized_layer (OccType-F.Named name inner) h = ap (λ (f : OccType → Bool). f (roll-OccType (OccType-F.Named name inner))) (fold-roll-OccType (Unit {0}) (OccType → Bool) (Unit {0}) (Unit {0}) (Unit {0}) (λ _. tt) oversized_step (λ _. tt) (λ _. tt) (λ _. tt) (OccType-F.Named name inner))
is_oversized_layer (OccType-F.Channel carried) h = ap (λ (f : OccType → Bool). f (roll-OccType (OccType-F.Channel carried))) (fold-roll-OccType (Unit {0}) (OccType → Bool) (Unit {0}) (Unit {0}) (Unit {0}) (λ _. tt) oversized_step (λ _. tt) (λ _. tt) (λ _. tt) (OccType-F.Channel carried))
is_oversized_layer OccType-F.Timer h = ap (λ (f : OccType → Bool). f (roll-OccType OccType-F.Timer)) (fold-roll-OccType (Unit {0}) (OccType → Bool) (Unit {0}) (Unit {0}) (Unit {0}) (λ _. tt) oversized_step (λ _. tt) (λ _. tt) (λ _. tt) OccType-F.Timer)
is_oversized_layer OccType-F.Unknown h = ap (λ (f : OccType → Bool). f (roll-OccType OccType-F.Unknown)) (fold-roll-OccType (Unit {0}) (OccType → Bool) (Unit {0}) (Unit {0}) (Unit {0}) (λ _. tt) oversized_step (λ _. tt) (λ _. tt) (λ _. tt) OccType-F.Unknown)

pub is_oversized_itself : (u : OccType) → ((n : Option ℕ) (inner : OccType) → u ≢ t.Array n inner) → is_oversized u ≡ is_over (size_of u)
is_oversized_itself u h =
    ap is_oversized (sym (roll-out-OccType u))
    ∙ is_oversized_layer (out-OccType u) (λ n inner e. h n inner (sym (roll-out-OccType u) ∙ e))
    ∙ ap (λ (v : OccType). is_over (size_of v)) (roll-out-OccType u)

-- an array of this extent is oversized by its extent, or since what it is an array of is
pub oversized_nest : (u inner : OccType) (n within extent : Option ℕ) (r : Bool) → u ≡ t.Array n inner → within ≡ capped (size_of inner) → extent ≡ capped (product_of n within)
    → ((size : Option ℕ) → extent ≡ capped size → r ≡ is_over size) → (r || is_oversized inner) ≡ is_oversized u
oversized_nest u inner n within extent r is inside value over =
    ap (λ (b : Bool). b || is_oversized inner)
    (over (size_of (t.Array n inner)) (value ∙ ap (λ (s : Option ℕ). capped (product_of n s)) inside ∙ cut_product n (size_of inner) ∙ ap capped (sym (size_array n inner))))
    ∙ sym (is_oversized_array n inner) ∙ ap is_oversized (sym is)

pub ruleset large_rules = (is_oversized_array, is_oversized_itself)
