-- What is kept of a type beside it.
use Rattle.std.specs.Prelude.{◌≡◌}
use Rattle.occ_types.specs.Large.{is_oversized}
use Rattle.occ_types.specs.Measure.{held, measure_of}
use Rattle.occ_types.specs.Size.{capped, size_of}
use Rattle.occ_types.specs.Unknown.{holds_unknown as spec_holds_unknown}
use Rattle.occ_types.specs.declared.known_type.KnownType.TheInside.{Inside}

-- it is what a walk through the type gives
pub record IsKnown (a : Inside) : Type 0 where
  pub extent : a.extent ≡ capped (size_of a.of)
  pub measure : a.measure ≡ held (measure_of a.of)
  pub unknown : a.holds_unknown ≡ spec_holds_unknown a.of
  pub oversized : a.is_oversized ≡ is_oversized a.of
