use Rattle.std.proofs.Common.{◌≡◌, ◌++◌}
use Rattle.std.specs.Vec.Iter.{into_iter_items}
use Rattle.occ_usage.proofs.finding.report_each.Given as goal

abbrev pub invariant-loop-diag : goal.invariant-loop-diag
invariant-loop-diag l = l.all ++ into_iter_items l.diag-iterator ≡ l.initial.all ++ l.fn.diags.items
