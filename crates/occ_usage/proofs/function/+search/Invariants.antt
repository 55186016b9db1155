use Rattle.std.proofs.Common.{◌≡◌, drop}
use Rattle.occ_usage.specs.FunctionRule.{has_function}
use Rattle.occ_usage.specs.Trees.{trees_of}
use Rattle.occ_usage.proofs.function.+search.Given as goal

abbrev pub invariant-loop-line : goal.invariant-loop-line
invariant-loop-line l = has_function (trees_of (drop l.line-index l.lines)) ≡ has_function (trees_of l.lines)
