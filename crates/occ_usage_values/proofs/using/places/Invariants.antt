use Rattle.std.proofs.Common.{◌≡◌, ◌++◌, drop}
use Rattle.occ_usage_values.specs.Views.{actual_views, places_of}
use Rattle.occ_usage_values.proofs.using.places.Given as goal

abbrev pub invariant-loop-actual : goal.invariant-loop-actual
invariant-loop-actual l = l.found ++ places_of (actual_views (drop l.actual-index l.actuals)) l.env ≡ places_of (actual_views l.actuals) l.env
