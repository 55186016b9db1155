use Rattle.std.proofs.Common.{◌≡◌, ◌++◌, take, length, List}
use Rattle.occ_usage_values.specs.declared.uses.Use.{Use}
use Rattle.occ_usage_conflicts.specs.inside.Accumulating.{IsTable}
use Rattle.occ_usage_conflicts.proofs.accumulate.add.Given as goal

abbrev pub invariant-loop-one : goal.invariant-loop-one
invariant-loop-one l = (length l.table.items ≡ length l.initial.table.items) × ((reported : List (List Use)) (accumulated : List Use) → IsTable reported accumulated l.initial.table.items → IsTable reported (accumulated ++ take l.one-index l.component) l.table.items)
