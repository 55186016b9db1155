use Rattle.std.proofs.Common.{◌≡◌, ◌++◌, replicate}
use Rattle.occ_project_graph.proofs.adding.add_times.Given as goal

abbrev pub invariant-loop : goal.invariant-loop
invariant-loop l = l.row.items ≡ l.fn.row.items ++ replicate l.counter l.node
