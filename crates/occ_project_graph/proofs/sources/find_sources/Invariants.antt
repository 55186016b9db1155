use Rattle.std.proofs.Common.{◌≡◌, ◌<◌, ◌++◌, ℕ, [], drop, get_or, length}
use Rattle.occ_project_graph.specs.Sources.{sources, sources_from}
use Rattle.occ_project_graph.proofs.sources.find_sources.Given as goal

abbrev pub invariant-loop-source : goal.invariant-loop-source
invariant-loop-source l =
    (length l.rows.items ≡ length l.graph)
    × ((v : ℕ) → v < length l.graph → get_or l.rows.items v [] ++ sources_from l.source (drop l.source l.graph) v ≡ sources l.graph v)
