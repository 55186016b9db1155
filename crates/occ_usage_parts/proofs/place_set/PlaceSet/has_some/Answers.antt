use Rattle.std.proofs.Common.{ap}
use Rattle.occ_types.specs.declared.interface.Places.{Places}
use Rattle.occ_usage_parts.specs.Places.{holds}
use Rattle.occ_usage_parts.proofs.Asking.{any_from_least}
use Rattle.occ_usage_parts.proofs.place_set.PlaceSet.has_some.Goals as goal

pub returns-in-All : goal.returns-in-All
returns-in-All c =
    ((λ t. let m = c.has_from.ensures.0 t in (m.0, m.1, ap (λ (p : Places). holds p m.0) c.in-All.is)), (λ m. c.has_from.ensures.1 (any_from_least c.args.self.now (m.0, m.1))))
