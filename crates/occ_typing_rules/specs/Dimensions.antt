-- The dimensions of a type, what stands after them, and whether a record that is not PACKED stands in it.
use Rattle.std.specs.Prelude.{ℕ, Bool, true, false, Option, Some, None, List, [], ◌∷◌}
use Rattle.occ_types.specs.Unknown.{any_of}
use Rattle.occ_types.specs.View.{as_array, of_component}
use Rattle.occ_types.specs.declared.types.Field.{Field}
use Rattle.occ_types.specs.declared.types.Item.TheFolds.{fold-OccType}
use Rattle.occ_types.specs.declared.types.Item.TheOpen.{Field-F, OccType-F}
use Rattle.occ_types.specs.declared.types.OccType.{OccType}
use Rattle.occ_types.specs.declared.types.OccType.TheVariants as t
use Rattle.occ_types.specs.declared.types.Packing.{Packing}
use Rattle.occ_types.specs.declared.types.Packing.TheVariants as packing

-- ---- up to the first name

abbrev pub dimensions_step : OccType-F (Unit {0}) (List (Option ℕ)) (Unit {0}) (Unit {0}) (Unit {0}) → List (Option ℕ)
dimensions_step (OccType-F.Primitive primitive) = []
dimensions_step (OccType-F.Array n following) = n ∷ following
dimensions_step (OccType-F.Record packing fields) = []
dimensions_step (OccType-F.Named name inner) = []
dimensions_step (OccType-F.Channel carried) = []
dimensions_step OccType-F.Timer = []
dimensions_step OccType-F.Unknown = []

-- those of arrays of arrays, the outermost first; a name is no dimension, nor is what stands under it
abbrev pub dimensions : OccType → List (Option ℕ)
dimensions = fold-OccType (Unit {0}) (List (Option ℕ)) (Unit {0}) (Unit {0}) (Unit {0}) (λ _. tt) dimensions_step (λ _. tt) (λ _. tt) (λ _. tt)

abbrev pub innermost_step : OccType-F (Unit {0}) (OccType → OccType) (Unit {0}) (Unit {0}) (Unit {0}) → OccType → OccType
innermost_step (OccType-F.Primitive primitive) self = self
innermost_step (OccType-F.Array n inner) self = of_component self inner (as_array self)
innermost_step (OccType-F.Record packing fields) self = self
innermost_step (OccType-F.Named name inner) self = self
innermost_step (OccType-F.Channel carried) self = self
innermost_step OccType-F.Timer self = self
innermost_step OccType-F.Unknown self = self

-- what stands after the dimensions
unfoldable pub innermost : OccType → OccType
innermost of = fold-OccType (Unit {0}) (OccType → OccType) (Unit {0}) (Unit {0}) (Unit {0}) (λ _. tt) innermost_step (λ _. tt) (λ _. tt) (λ _. tt) of of

-- ---- with a number in place of the first `[]`

abbrev pub sized_array : Option ℕ → ℕ → OccType → OccType → OccType
sized_array None n inner sized = t.Array (Some n) inner
sized_array (Some m) n inner sized = t.Array (Some m) sized

abbrev pub sized_in : ℕ → OccType → (OccType → OccType) → Option (Option ℕ × OccType) → OccType
sized_in n here sized None = here
sized_in n here sized (Some parts) = sized_array parts.0 n parts.1 (sized parts.1)

abbrev pub sized_step : ℕ → OccType-F (Unit {0}) (OccType → OccType) (Unit {0}) (Unit {0}) (Unit {0}) → OccType → OccType
sized_step n (OccType-F.Primitive primitive) self = self
sized_step n (OccType-F.Array m sized) self = sized_in n self sized (as_array self)
sized_step n (OccType-F.Record packing fields) self = self
sized_step n (OccType-F.Named name inner) self = self
sized_step n (OccType-F.Channel carried) self = self
sized_step n OccType-F.Timer self = self
sized_step n OccType-F.Unknown self = self

unfoldable pub sized : ℕ → OccType → OccType
sized n of = fold-OccType (Unit {0}) (OccType → OccType) (Unit {0}) (Unit {0}) (Unit {0}) (λ _. tt) (sized_step n) (λ _. tt) (λ _. tt) (λ _. tt) of of

-- ---- records

abbrev pub record_of : Packing → Bool → Bool
record_of packing.Packed inside = inside
record_of packing.Plain inside = true

abbrev pub plain_step : OccType-F (Unit {0}) Bool (Unit {0}) Bool (Unit {0}) → Bool
plain_step (OccType-F.Primitive primitive) = false
plain_step (OccType-F.Array n inside) = inside
plain_step (OccType-F.Record packing fields) = record_of packing (any_of fields)
plain_step (OccType-F.Named name inside) = inside
plain_step (OccType-F.Channel carried) = false
plain_step OccType-F.Timer = false
plain_step OccType-F.Unknown = false

abbrev pub plain_field_step : Field-F (Unit {0}) Bool (Unit {0}) Bool (Unit {0}) → Bool
plain_field_step f = f.of

-- a value of the type has a record in it that is not PACKED; what a channel carries is not in it
abbrev pub holds_plain_record : OccType → Bool
holds_plain_record = fold-OccType (Unit {0}) Bool (Unit {0}) Bool (Unit {0}) (λ _. tt) plain_step (λ _. tt) plain_field_step (λ _. tt)

abbrev pub fields_hold_plain_record : List Field → List Bool
fields_hold_plain_record [] = []
fields_hold_plain_record (f ∷ fs) = holds_plain_record f.of ∷ fields_hold_plain_record fs
