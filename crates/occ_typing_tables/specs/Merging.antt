-- The one type of several that agree: a number of components that one leaves unknown is that of another.
use Rattle.std.specs.Prelude.{ℕ, Option, Some, None, if◌then◌else◌}
use Rattle.occ_types.specs.Fits.{fits}
use Rattle.occ_types.specs.View.{as_array}
use Rattle.occ_types.specs.declared.types.Item.TheFolds.{fold-OccType}
use Rattle.occ_types.specs.declared.types.Item.TheOpen.{OccType-F}
use Rattle.occ_types.specs.declared.types.OccType.{OccType}
use Rattle.occ_types.specs.declared.types.OccType.TheVariants as t

abbrev pub known_count : Option ℕ → Option ℕ → Option ℕ
known_count None n = n
known_count (Some m) n = Some m

-- a type, and the one that says what it leaves unknown
abbrev pub Fill : Type 0
Fill = OccType → OccType → OccType

abbrev pub fill_array : Fill → OccType → Option (Option ℕ × OccType) → Option (Option ℕ × OccType) → OccType
fill_array inner self None other = self
fill_array inner self (Some x) None = self
fill_array inner self (Some x) (Some y) = t.Array (known_count x.0 y.0) (inner x.1 y.1)

abbrev pub fill_step : OccType-F (Unit {0}) Fill (Unit {0}) (Unit {0}) (Unit {0}) → Fill
fill_step (OccType-F.Array n inner) self b = fill_array inner self (as_array self) (as_array b)
fill_step (OccType-F.Primitive primitive) self b = self
fill_step (OccType-F.Record packing fields) self b = self
fill_step (OccType-F.Named name inner) self b = self
fill_step (OccType-F.Channel carried) self b = self
fill_step OccType-F.Timer self b = self
fill_step OccType-F.Unknown self b = self

-- the numbers of components that a leaves unknown are those of b
unfoldable pub filled : OccType → OccType → OccType
filled a b = fold-OccType (Unit {0}) Fill (Unit {0}) (Unit {0}) (Unit {0}) (λ _. tt) fill_step (λ _. tt) (λ _. tt) (λ _. tt) a a b

abbrev pub merged : OccType → OccType → Option OccType
merged a b = if fits a b then Some (filled a b) else None
