-- Timers, which nothing uses.
use Rattle.std.specs.Prelude.{Bool, true, false}
use Rattle.occ_types.specs.declared.types.Item.TheFolds.{fold-OccType}
use Rattle.occ_types.specs.declared.types.Item.TheOpen.{OccType-F}
use Rattle.occ_types.specs.declared.types.OccType.{OccType}

abbrev pub timer_step : OccType-F (Unit {0}) Bool (Unit {0}) (Unit {0}) (Unit {0}) → Bool
timer_step (OccType-F.Primitive primitive) = false
timer_step (OccType-F.Array n inner) = inner
timer_step (OccType-F.Record packing fields) = false
timer_step (OccType-F.Named name inner) = false
timer_step (OccType-F.Channel carried) = false
timer_step OccType-F.Timer = true
timer_step OccType-F.Unknown = false

-- a timer, or an array of timers
abbrev pub is_timer : OccType → Bool
is_timer = fold-OccType (Unit {0}) Bool (Unit {0}) (Unit {0}) (Unit {0}) (λ _. tt) timer_step (λ _. tt) (λ _. tt) (λ _. tt)
