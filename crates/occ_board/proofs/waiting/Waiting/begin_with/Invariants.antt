use Rattle.std.proofs.Common.{◌≡◌, ◌<◌, ◌⊎◌, Some, drop, true, ℕ}
use Rattle.occ_board.specs.inside.Ready.{is_ready}
use Rattle.occ_board.proofs.waiting.Waiting.begin_with.Given as goal
use Rattle.occ_project.specs.declared.reads.Read.{Read}
use Rattle.occ_project_graph.specs.Graph.{is_among}
use Rattle.std.specs.BTreeSet.{contains}
use Rattle.std.specs.List.{slice_get}
use Rattle.std.specs.Ordering.{nat_cmp}

abbrev pub invariant-loop-place : goal.invariant-loop-place
invariant-loop-place l = (p : ℕ) (file : Read) → p < l.self.from → slice_get l.graph p ≡ Some file → is_ready l.graph l.flags p file ≡ true → (contains nat_cmp l.self.early p ≡ true) ⊎ (is_among (drop l.place l.indices) p ≡ true)
