use Rattle.std.proofs.Common.{◌≡◌, ◌++◌, length}
use Rattle.occ_tree.specs.Faults.{faults_at, shape_faults}
use Rattle.occ_tree.proofs.faults.shape_faults.Given as goal

abbrev pub invariant-loop-line : goal.invariant-loop-line
invariant-loop-line l = l.found ++ faults_at l.rest l.marks ≡ shape_faults l.fn.lines

abbrev pub decreases-loop-line : goal.decreases-loop-line
decreases-loop-line l = length l.rest
