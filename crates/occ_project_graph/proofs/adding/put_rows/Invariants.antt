use Rattle.std.proofs.Common.{length}
use Rattle.occ_project_graph.proofs.Replaced.{IsPutting}
use Rattle.occ_project_graph.specs.inside.Linking.{with_rows}
use Rattle.occ_project_graph.proofs.adding.put_rows.Given as goal

abbrev pub invariant-loop-row : goal.invariant-loop-row
invariant-loop-row l = IsPutting l.nodes (with_rows l.fn.rows.items l.nodes l.fn.found) l.rows.items l.found

abbrev pub decreases-loop-row : goal.decreases-loop-row
decreases-loop-row l = length l.found
