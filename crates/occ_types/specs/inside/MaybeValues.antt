-- A value where there is one, as it is held under one tag.
use Rattle.std.specs.Prelude.{◌≡◌, Option, Some, None}
use Rattle.std.proofs.Common.{ap, refl}
use Rattle.occ_types.specs.declared.maybe_value.Held.{Held}
use Rattle.occ_types.specs.declared.maybe_value.Held.TheVariants as h
use Rattle.occ_types.specs.declared.maybe_value.MaybeValue.TheInside.{Inside}
use Rattle.occ_types.specs.declared.value.Value.{Value}
use Rattle.occ_types.specs.declared.value.Value.TheVariants as v

abbrev pub value_of : Held → Option Value
value_of h.None = None
value_of (h.Bool b) = Some (v.Bool b)
value_of (h.Byte n) = Some (v.Byte n)
value_of (h.Int16 n) = Some (v.Int16 n)
value_of (h.Int n) = Some (v.Int n)
value_of (h.Int32 n) = Some (v.Int32 n)
value_of (h.Int64 n) = Some (v.Int64 n)

abbrev pub held_of : Option Value → Held
held_of None = h.None
held_of (Some (v.Bool b)) = h.Bool b
held_of (Some (v.Byte n)) = h.Byte n
held_of (Some (v.Int16 n)) = h.Int16 n
held_of (Some (v.Int n)) = h.Int n
held_of (Some (v.Int32 n)) = h.Int32 n
held_of (Some (v.Int64 n)) = h.Int64 n

back : (h : Held) → held_of (value_of h) ≡ h
back h.None = refl
back (h.Bool b) = refl
back (h.Byte n) = refl
back (h.Int16 n) = refl
back (h.Int n) = refl
back (h.Int32 n) = refl
back (h.Int64 n) = refl

-- nothing is forgotten
pub held_back : (a : Inside) → Unit {0} → record { held = held_of (value_of a.held) } ≡ a
held_back a _ = ap (λ (h : Held). record { held = h }) (back a.held)
