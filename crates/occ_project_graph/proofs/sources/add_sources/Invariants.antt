use Rattle.std.proofs.Common.{◌≡◌, ◌<◌, ◌++◌, ℕ, [], drop, get_or, length}
use Rattle.occ_project_graph.specs.Sources.{once_each}
use Rattle.occ_project_graph.proofs.sources.add_sources.Given as goal

abbrev pub invariant-loop-node : goal.invariant-loop-node
invariant-loop-node l =
    (length l.rows.items ≡ length l.fn.rows.items)
    × ((v : ℕ) → v < length l.fn.rows.items → get_or l.rows.items v [] ++ once_each l.source (drop l.node-index l.nodes) v ≡ get_or l.fn.rows.items v [] ++ once_each l.source l.nodes v)
