use Rattle.std.proofs.Common.{◌<◌, ℕ, get_or}
use Rattle.std.specs.List.{slice_get}
use Rattle.occ_project_units.specs.inside.Keeping.{IsAsBefore}
use Rattle.occ_project_units.proofs.renewing.are_as_before.Given as goal

abbrev pub invariant-loop-i : goal.invariant-loop-i
invariant-loop-i l = (j : ℕ) → j < l.i → IsAsBefore (slice_get l.facts (get_or l.indices j 0)) (slice_get l.found j)
