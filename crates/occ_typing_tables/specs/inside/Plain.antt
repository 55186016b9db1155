-- Operands that are of a type and faultless, where it is wanted of them, and a table of such items.
use Rattle.std.specs.Prelude.{ℕ, Bool, true, false, ◌≡◌, Option, None, List, [], ◌∷◌}
use Rattle.occ_types.specs.declared.types.OccType.{OccType}
use Rattle.occ_types.specs.declared.value.Value.{Value}
use Rattle.occ_typing_operands.specs.Settling.{known}
use Rattle.occ_typing_operands.specs.declared.kind.Kind.{Kind}
use Rattle.occ_typing_operands.specs.declared.kind.Kind.TheVariants as k
use Rattle.occ_typing_operands.specs.declared.kind.TypedValue.{TypedValue}
use Rattle.occ_typing_operands.specs.declared.kind.TypedValue.TheVariants as o
use Rattle.occ_typing_tables.specs.Terms.{Judged, all_settled, settled_so, so_many}
use Rattle.occ_typing_tables.specs.declared.table.Settled.{Settled}

abbrev pub is_landed : TypedValue → Bool
is_landed o.Unfit = false
is_landed (o.Faulty x) = false
is_landed o.Varying = true
is_landed (o.Constant v) = true

abbrev pub value_in : Kind → Option Value
value_in k.Faulty = None
value_in (k.Untyped f) = None
value_in (k.Known x) = x.value

-- nothing is reported of it, and it is of the type
abbrev pub IsPlain : OccType → Settled → Type 0
IsPlain of y = y ≡ record { faults = []; kind = known of (value_in y.kind); is_faulty = false }

abbrev pub ArePlain : OccType → List Judged → Type 0
ArePlain of [] = Unit {0}
ArePlain of (x ∷ xs) = IsPlain of (x.settled of) × ArePlain of xs

-- of such a table no more counts than how many items there are
abbrev pub IsCounted : ℕ → OccType → List Judged → Type 0
IsCounted n of xs = (from_outside : Bool) → all_settled from_outside of xs ≡ settled_so (so_many n of) false
