use Rattle.std.proofs.Common.{◌≡◌, length, []}
use Rattle.occ_usage_conflicts.specs.inside.Accumulating.{IsTable}
use Rattle.occ_usage_conflicts.proofs.accumulate.none.Given as goal

abbrev pub invariant-loop-made : goal.invariant-loop-made
invariant-loop-made l = (length l.table.items ≡ l._made) × IsTable [] [] l.table.items
