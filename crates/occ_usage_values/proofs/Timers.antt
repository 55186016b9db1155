-- Which types are those of timers, form by form.
use Rattle.std.proofs.Common.{◌≡◌, ◌∙◌, ℕ, List, Option, Bool, true, false, ap, sym}
use Rattle.occ_types.specs.declared.types.Field.{Field}
use Rattle.occ_types.specs.declared.types.Item.TheFolds.{fold-roll-OccType}
use Rattle.occ_types.specs.declared.types.Item.TheOpen.{OccType-F}
use Rattle.occ_types.specs.declared.types.OccType.{OccType}
use Rattle.occ_types.specs.declared.types.OccType.TheVariants as t
use Rattle.occ_types.specs.declared.types.Packing.{Packing}
use Rattle.occ_types.specs.declared.types.Protocol.{Protocol}
use Rattle.occ_types.specs.declared.value.Primitive.{Primitive}
use Rattle.occ_usage_values.specs.Timers.{is_timer, timer_step}

pub is_timer_primitive : (x : Primitive) → is_timer (t.Primitive x) ≡ false
is_timer_primitive x = ap is_timer (sym (t.rolls-Primitive x)) ∙ fold-roll-OccType (Unit {0}) Bool (Unit {0}) (Unit {0}) (Unit {0}) (λ _. tt) timer_step (λ _. tt) (λ _. tt) (λ _. tt) (OccType-F.Primitive x)

pub is_timer_array : (n : Option ℕ) (inner : OccType) → is_timer (t.Array n inner) ≡ is_timer inner
is_timer_array n inner = ap is_timer (sym (t.rolls-Array n inner)) ∙ fold-roll-OccType (Unit {0}) Bool (Unit {0}) (Unit {0}) (Unit {0}) (λ _. tt) timer_step (λ _. tt) (λ _. tt) (λ _. tt) (OccType-F.Array n inner)

pub is_timer_record : (packing : Packing) (fields : List Field) → is_timer (t.Record packing fields) ≡ false
is_timer_record packing fields = ap is_timer (sym (t.rolls-Record packing fields)) ∙ fold-roll-OccType (Unit {0}) Bool (Unit {0}) (Unit {0}) (Unit {0}) (λ _. tt) timer_step (λ _. tt) (λ _. tt) (λ _. tt) (OccType-F.Record packing fields)

pub is_timer_named : (name : List ℕ) (inner : OccType) → is_timer (t.Named name inner) ≡ false
is_timer_named name inner = ap is_timer (sym (t.rolls-Named name inner)) ∙ fold-roll-OccType (Unit {0}) Bool (Unit {0}) (Unit {0}) (Unit {0}) (λ _. tt) timer_step (λ _. tt) (λ _. tt) (λ _. tt) (OccType-F.Named name inner)

pub is_timer_channel : (carried : Protocol) → is_timer (t.Channel carried) ≡ false
is_timer_channel carried = ap is_timer (sym (t.rolls-Channel carried)) ∙ fold-roll-OccType (Unit {0}) Bool (Unit {0}) (Unit {0}) (Unit {0}) (λ _. tt) timer_step (λ _. tt) (λ _. tt) (λ _. tt) (OccType-F.Channel carried)

pub is_timer_timer : is_timer t.Timer ≡ true
is_timer_timer = ap is_timer (sym t.rolls-Timer) ∙ fold-roll-OccType (Unit {0}) Bool (Unit {0}) (Unit {0}) (Unit {0}) (λ _. tt) timer_step (λ _. tt) (λ _. tt) (λ _. tt) OccType-F.Timer

pub is_timer_unknown : is_timer t.Unknown ≡ false
is_timer_unknown = ap is_timer (sym t.rolls-Unknown) ∙ fold-roll-OccType (Unit {0}) Bool (Unit {0}) (Unit {0}) (Unit {0}) (λ _. tt) timer_step (λ _. tt) (λ _. tt) (λ _. tt) OccType-F.Unknown

pub ruleset timer_rules = (is_timer_primitive, is_timer_array, is_timer_record, is_timer_named, is_timer_channel, is_timer_timer, is_timer_unknown)
