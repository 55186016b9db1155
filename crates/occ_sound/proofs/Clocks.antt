-- Timers of the rules are timers when they run.
use Rattle.std.proofs.Common.{◌≡◌, ◌∙◌, ℕ, Bool, true, false, Option, Some, map, refl, ap, sym, subst}
use Rattle.occ_types.specs.View.{array_layer, as_array, is_timer as is_timer_type, timer_layer}
use Rattle.occ_types.specs.declared.types.Field.{Field}
use Rattle.occ_types.specs.declared.types.Item.{Item}
use Rattle.occ_types.specs.declared.types.Item.TheFolds.{fold-roll-OccType, ind-OccType, map-OccType}
use Rattle.occ_types.specs.declared.types.Item.TheOpen.{OccType-F}
use Rattle.occ_types.specs.declared.types.Item.TheViews.{out-roll-OccType}
use Rattle.occ_types.specs.declared.types.OccType.{OccType, roll-OccType}
use Rattle.occ_types.specs.declared.types.Protocol.{Protocol}
use Rattle.occ_types.specs.declared.types.Tag.{Tag}
use Rattle.occ_usage_values.specs.Timers.{is_timer, timer_step}
use Rattle.occ_running.specs.Scopes
use Rattle.occ_running.specs.Scopes.{IsClock}

abbrev Any : Type 0 → Type 0
Any X = (x : X) × Unit {0}

abbrev Told : OccType → Type 0
Told of = is_timer of ≡ true → IsClock of

abbrev With : Type 0
With = (u : OccType) × Told u

abbrev Layer : Type 0
Layer = OccType-F Item OccType Protocol Field Tag

rolled : (o : Layer) → is_timer (roll-OccType o) ≡ timer_step (map-OccType _ _ _ _ _ _ _ _ _ _ (λ _. tt) is_timer (λ _. tt) (λ _. tt) (λ _. tt) o)
rolled o = fold-roll-OccType (Unit {0}) Bool (Unit {0}) (Unit {0}) (Unit {0}) (λ _. tt) timer_step (λ _. tt) (λ _. tt) (λ _. tt) o

no_timer : {X : Type 0} (o : Layer) → timer_step (map-OccType _ _ _ _ _ _ _ _ _ _ (λ _. tt) is_timer (λ _. tt) (λ _. tt) (λ _. tt) o) ≡ false → is_timer (roll-OccType o) ≡ true → X
no_timer o h k = absurd (let e : false ≡ true = sym h ∙ sym (rolled o) ∙ k in cc)

a_timer : is_timer_type (roll-OccType OccType-F.Timer) ≡ true
unfolding is_timer_type
a_timer = ap timer_layer (out-roll-OccType OccType-F.Timer)

an_array : (n : Option ℕ) (inner : OccType) → as_array (roll-OccType (OccType-F.Array n inner)) ≡ Some (n, inner)
unfolding as_array
an_array n inner = ap array_layer (out-roll-OccType (OccType-F.Array n inner))

clock_step : (x : Layer) (y : OccType-F (Any Item) With (Any Protocol) (Any Field) (Any Tag)) → map-OccType _ _ _ _ _ _ _ _ _ _ (λ e. e.0) (λ e. e.0) (λ e. e.0) (λ e. e.0) (λ e. e.0) y ≡ x → Told (roll-OccType x)
clock_step x y is = subst (λ (z : Layer). Told (roll-OccType z)) is (by y) where
  by : (y : OccType-F (Any Item) With (Any Protocol) (Any Field) (Any Tag)) → Told (roll-OccType (map-OccType _ _ _ _ _ _ _ _ _ _ (λ e. e.0) (λ e. e.0) (λ e. e.0) (λ e. e.0) (λ e. e.0) y))
  by (OccType-F.Primitive x) h = no_timer (OccType-F.Primitive x) refl h
  by (OccType-F.Array n inner) h =
      Scopes.timers (roll-OccType (OccType-F.Array n inner.0)) (n, inner.0) (an_array n inner.0) (inner.1 (sym (rolled (OccType-F.Array n inner.0)) ∙ h))
  by (OccType-F.Record packing fields) h = no_timer (OccType-F.Record packing (map (λ e. e.0) fields)) refl h
  by (OccType-F.Named name inner) h = no_timer (OccType-F.Named name inner.0) refl h
  by (OccType-F.Channel c) h = no_timer (OccType-F.Channel c.0) refl h
  by OccType-F.Timer h = Scopes.timer (roll-OccType OccType-F.Timer) a_timer
  by OccType-F.Unknown h = no_timer OccType-F.Unknown refl h

pub clock_known : (of : OccType) → is_timer of ≡ true → IsClock of
clock_known = ind-OccType (λ _. Unit {0}) Told (λ _. Unit {0}) (λ _. Unit {0}) (λ _. Unit {0}) (λ x y e. tt) clock_step (λ x y e. tt) (λ x y e. tt) (λ x y e. tt)
