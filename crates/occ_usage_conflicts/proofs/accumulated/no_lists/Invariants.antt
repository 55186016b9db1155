use Rattle.std.proofs.Common.{◌≡◌, false, List}
use Rattle.occ_types.specs.declared.interface.PartSelector.{PartSelector}
use Rattle.occ_usage_conflicts.specs.inside.Spreading.{meets_in}
use Rattle.occ_usage_conflicts.proofs.accumulated.no_lists.Given as goal

abbrev pub invariant-loop-made : goal.invariant-loop-made
invariant-loop-made l = (q : List PartSelector) → meets_in l.lists.items q ≡ false
