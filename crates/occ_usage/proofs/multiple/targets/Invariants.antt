use Rattle.std.proofs.Common.{◌≡◌, ◌++◌, drop}
use Rattle.occ_usage.specs.ParallelRule.{targets as reported}
use Rattle.occ_usage.proofs.multiple.targets.Given as goal

abbrev pub invariant-loop-element : goal.invariant-loop-element
invariant-loop-element l = l.found.items ++ reported (drop l.element-index l.elements) l.env l.line ≡ reported l.elements l.env l.line
