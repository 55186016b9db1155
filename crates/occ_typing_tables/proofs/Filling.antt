-- The numbers of components that a type leaves unknown, form by form.
use Rattle.std.proofs.Common.{◌≡◌, ◌≢◌, ◌∙◌, ℕ, Option, Some, None, ap, refl, sym}
use Rattle.occ_types.specs.declared.types.Item.TheFolds.{fold-OccType, fold-roll-OccType}
use Rattle.occ_types.specs.declared.types.Item.TheOpen.{OccType-F}
use Rattle.occ_types.specs.declared.types.Item.TheViews.{roll-out-OccType}
use Rattle.occ_types.specs.declared.types.OccType.{OccType, out-OccType, roll-OccType}
use Rattle.occ_types.specs.declared.types.OccType.TheVariants as t
use Rattle.occ_types.specs.View.{Layer, as_array}
use Rattle.occ_types.proofs.Agreeing.{as_array_at_array}
use Rattle.occ_typing_tables.specs.Merging.{Fill, fill_array, fill_step, filled, known_count}

abbrev fill : OccType → Fill
fill = fold-OccType (Unit {0}) Fill (Unit {0}) (Unit {0}) (Unit {0}) (λ _. tt) fill_step (λ _. tt) (λ _. tt) (λ _. tt)

filled_array : (m : Option ℕ) (x b : OccType) → filled (t.Array m x) b ≡ fill_array (fill x) (t.Array m x) (Some (m, x)) (as_array b)
unfolding filled
filled_array m x b =
    ap (λ (f : Fill). f (t.Array m x) b) (ap fill (sym (t.rolls-Array m x)) ∙ fold-roll-OccType (Unit {0}) Fill (Unit {0}) (Unit {0}) (Unit {0}) (λ _. tt) fill_step (λ _. tt) (λ _. tt) (λ _. tt) (OccType-F.Array m x))
    ∙ ap (λ (p : Option (Option ℕ × OccType)). fill_array (fill x) (t.Array m x) p (as_array b)) (as_array_at_array m x)

pub filled_both : (m n : Option ℕ) (x y b : OccType) → as_array b ≡ Some (n, y) → filled (t.Array m x) b ≡ t.Array (known_count m n) (filled x y)
unfolding filled
filled_both m n x y b is = filled_array m x b ∙ ap (fill_array (fill x) (t.Array m x) (Some (m, x))) is

pub filled_alone : (m : Option ℕ) (x b : OccType) → as_array b ≡ None → filled (t.Array m x) b ≡ t.Array m x
filled_alone m x b is = filled_array m x b ∙ ap (fill_array (fill x) (t.Array m x) (Some (m, x))) is

filled_layer : (y : Layer) (b : OccType) → ((n : Option ℕ) (inner : OccType) → roll-OccType y ≢ t.Array n inner) → filled (roll-OccType y) b ≡ roll-OccType y
unfolding filled
filled_layer (OccType-F.Array n inner) b h = absurd (h n inner (t.rolls-Array n inner))
filled_layer (OccType-F.Primitive x) b h = ap (λ (f : Fill). f (roll-OccType (OccType-F.Primitive x)) b) (fold-roll-OccType (Unit {0}) Fill (Unit {0}) (Unit {0}) (Unit {0}) (λ _. tt) fill_step (λ _. tt) (λ _. tt) (λ _. tt) (OccType-F.Primitive x))
filled_layer (OccType-F.Record packing fields) b h = ap (λ (f : Fill). f (roll-OccType (OccType-F.Record packing fields)) b) (fold-roll-OccType (Unit {0}) Fill (Unit {0}) (Unit {0}) (Unit {0}) (λ _. tt) fill_step (λ _. tt) (λ _. tt) (λ _. tt) (OccType-F.Record packing fields))
filled_layer (OccType-F.Named name inner) b h = ap (λ (f : Fill). f (roll-OccType (OccType-F.Named name inner)) b) (fold-roll-OccType (Unit {0}) Fill (Unit {0}) (Unit {0}) (Unit {0}) (λ _. tt) fill_step (λ _. tt) (λ _. tt) (λ _. tt) (OccType-F.Named name inner))
filled_layer (OccType-F.Channel carried) b h = ap (λ (f : Fill). f (roll-OccType (OccType-F.Channel carried)) b) (fold-roll-OccType (Unit {0}) Fill (Unit {0}) (Unit {0}) (Unit {0}) (λ _. tt) fill_step (λ _. tt) (λ _. tt) (λ _. tt) (OccType-F.Channel carried))
filled_layer OccType-F.Timer b h = ap (λ (f : Fill). f (roll-OccType OccType-F.Timer) b) (fold-roll-OccType (Unit {0}) Fill (Unit {0}) (Unit {0}) (Unit {0}) (λ _. tt) fill_step (λ _. tt) (λ _. tt) (λ _. tt) OccType-F.Timer)
filled_layer OccType-F.Unknown b h = ap (λ (f : Fill). f (roll-OccType OccType-F.Unknown) b) (fold-roll-OccType (Unit {0}) Fill (Unit {0}) (Unit {0}) (Unit {0}) (λ _. tt) fill_step (λ _. tt) (λ _. tt) (λ _. tt) OccType-F.Unknown)

pub filled_itself : (a b : OccType) → ((n : Option ℕ) (inner : OccType) → a ≢ t.Array n inner) → filled a b ≡ a
filled_itself a b h =
    ap (λ (u : OccType). filled u b) (sym (roll-out-OccType a))
    ∙ filled_layer (out-OccType a) b (λ n inner e. h n inner (sym (roll-out-OccType a) ∙ e))
    ∙ roll-out-OccType a

closed_by : (m : ℕ) (x b : OccType) → ((other : OccType) → filled x other ≡ x) → (p : Option (Option ℕ × OccType)) → as_array b ≡ p → filled (t.Array (Some m) x) b ≡ t.Array (Some m) x
closed_by m x b h None is = filled_alone (Some m) x b is
closed_by m x b h (Some parts) is = filled_both (Some m) parts.0 x parts.1 b is ∙ ap (t.Array (Some m)) (h parts.1)

-- where nothing is filled in below, nothing is where the number of components is said
pub closed_array : (u : OccType) (m : ℕ) (x b : OccType) → u ≡ t.Array (Some m) x → ((other : OccType) → filled x other ≡ x) → filled u b ≡ u
closed_array u m x b is h = ap (λ (v : OccType). filled v b) is ∙ closed_by m x b h (as_array b) refl ∙ sym is

pub ruleset filling_rules = (filled_both, filled_alone, filled_itself)
