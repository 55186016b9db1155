-- When a type is too large.
use Rattle.std.specs.Prelude.{nat_le, Bool, false, not, ◌||◌, ◌&&◌}
use Rattle.occ_types.specs.Measure.{measure_of}
use Rattle.occ_types.specs.Size.{is_over, size_of}
use Rattle.occ_types.specs.Unknown.{holds_unknown}
use Rattle.occ_types.specs.View.{as_array, of_component}
use Rattle.occ_types.specs.declared.measure.Measure.{Measure}
use Rattle.occ_types.specs.declared.types.Item.TheFolds.{fold-OccType}
use Rattle.occ_types.specs.declared.types.Item.TheOpen.{OccType-F}
use Rattle.occ_types.specs.declared.types.OccType.{OccType}

abbrev pub oversized_step : OccType-F (Unit {0}) (OccType → Bool) (Unit {0}) (Unit {0}) (Unit {0}) → OccType → Bool
oversized_step (OccType-F.Array n inner) self = is_over (size_of self) || of_component false inner (as_array self)
oversized_step (OccType-F.Primitive primitive) self = is_over (size_of self)
oversized_step (OccType-F.Record packing fields) self = is_over (size_of self)
oversized_step (OccType-F.Named name inner) self = is_over (size_of self)
oversized_step (OccType-F.Channel carried) self = is_over (size_of self)
oversized_step OccType-F.Timer self = is_over (size_of self)
oversized_step OccType-F.Unknown self = is_over (size_of self)

-- the type, or one that it is an array of, has too many bytes
unfoldable pub is_oversized : OccType → Bool
is_oversized u = fold-OccType (Unit {0}) (OccType → Bool) (Unit {0}) (Unit {0}) (Unit {0}) (λ _. tt) oversized_step (λ _. tt) (λ _. tt) (λ _. tt) u u

-- over 128 levels, or over 4,096 types
abbrev pub is_too_wide : Measure → Bool
is_too_wide m = not (nat_le m.levels 128) || not (nat_le m.types 4096)

-- it has too many bytes, levels or types; these two are not asked of a type that holds a field with a faulty line
abbrev pub is_too_large : OccType → Bool
is_too_large u = is_oversized u || (not (holds_unknown u) && is_too_wide (measure_of u))
