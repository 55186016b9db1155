use Rattle.std.proofs.Common.{◌≡◌, [], replicate}
use Rattle.occ_project_graph.proofs.sources.no_sources.Given as goal

abbrev pub invariant-loop : goal.invariant-loop
invariant-loop l = l.rows.items ≡ replicate l.counter []
