use Rattle.std.proofs.Common.{◌≡◌, take, length}
use Rattle.occ_usage_conflicts.specs.Components.{joined}
use Rattle.occ_usage_conflicts.specs.inside.Accumulating.{IsTable}
use Rattle.occ_usage_conflicts.proofs.accumulate.root_uses.Given as goal

abbrev pub invariant-loop-component : goal.invariant-loop-component
invariant-loop-component l = (length l.table.items ≡ l.count) × IsTable (take l.component-index l.components) (joined (take l.component-index l.components)) l.table.items
