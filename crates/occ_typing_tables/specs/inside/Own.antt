-- Operands that are settled under their own type as they are alone.
use Rattle.std.specs.Prelude.{ℕ, ◌≡◌, Option, Some, false, List, [], ◌∷◌}
use Rattle.occ_types.specs.View.{as_array}
use Rattle.occ_types.specs.declared.types.OccType.{OccType}
use Rattle.occ_typing_operands.specs.declared.kind.Kind.{Kind}
use Rattle.occ_typing_operands.specs.declared.kind.Kind.TheVariants as k
use Rattle.occ_typing_operands.specs.declared.kind.Known.{Known}
use Rattle.occ_typing_tables.specs.Terms.{Judged, table_settled}
use Rattle.occ_typing_tables.specs.declared.table.Settled.{Settled}

-- of what is known to be of a type
abbrev pub IfKnown : (Known → Type 0) → Kind → Type 0
IfKnown P k.Faulty = Unit {0}
IfKnown P (k.Untyped f) = Unit {0}
IfKnown P (k.Known v) = P v

-- as it is, without a fault
abbrev pub as_it_stands : Known → Settled
as_it_stands v = record { faults = []; kind = k.Known v; is_faulty = false }

abbrev pub IsOwn : Known → Judged → Type 0
IsOwn v x = x.settled v.of ≡ as_it_stands v

-- the first of them
abbrev pub IsOwnFirst : Known → List Judged → Type 0
IsOwnFirst v [] = Unit {0}
IsOwnFirst v (x ∷ xs) = IsOwn v x

-- a table of them
abbrev pub IsOwnTable : List Judged → Known → Type 0
IsOwnTable xs v = table_settled xs v.of ≡ as_it_stands v

abbrev pub IsArrayOf : OccType → Known → Type 0
IsArrayOf of v = (n : Option ℕ) × (as_array v.of ≡ Some (n, of))
