use Rattle.std.proofs.Common.{◌≡◌, ◌+◌, ◌-◌, ◌≤◌, List, ℕ, length}
use Rattle.occ_project_graph.specs.inside.Searching.{IsSearch, unmarked}
use Rattle.occ_project_graph.proofs.search.go_on.Given as goal

abbrev pub invariant-loop-index : goal.invariant-loop-index
invariant-loop-index l =
    ((from : ℕ) (old : List ℕ) → l.mark ≡ from + 1 → IsSearch l.graph l.others l.other from old l.initial.seen 0 → IsSearch l.graph l.others l.other from old l.seen l.index)
    × (l.index ≤ length l.seen.queue)
    × (unmarked l.mark l.seen.marks + length l.seen.queue ≡ unmarked l.mark l.initial.seen.marks + length l.initial.seen.queue)

abbrev pub decreases-loop-index : goal.decreases-loop-index
decreases-loop-index l = unmarked l.mark l.initial.seen.marks + length l.initial.seen.queue - l.index
