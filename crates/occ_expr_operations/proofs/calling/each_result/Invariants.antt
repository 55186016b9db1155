use Rattle.std.proofs.Common.{◌≡◌, ◌++◌, drop}
use Rattle.occ_expr_operations.specs.Sides.{result_opens, result_terms}
use Rattle.occ_expr_operations.proofs.calling.each_result.Given as goal

abbrev pub invariant-loop-of : goal.invariant-loop-of
invariant-loop-of l =
    (l.all.terms ++ result_terms (drop l.of-index l.results) ≡ result_terms l.results)
    × (l.all.open_exprs ++ result_opens l.call (drop l.of-index l.results) ≡ result_opens l.call l.results)
