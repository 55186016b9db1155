use Rattle.std.proofs.Common.{◌≡◌, ◌≤◌, ◌++◌, [], drop, length, take}
use Rattle.occ_usage_conflicts.specs.Components.{joined, parted}
use Rattle.occ_usage_conflicts.specs.Distinct.{gathered}
use Rattle.occ_usage.specs.Lines.{items, items_of, rounds_to}
use Rattle.occ_usage.specs.AbbreviationRule.{abbreviation_at}
use Rattle.occ_usage.specs.ParallelRule.{parallel_at}
use Rattle.occ_usage.specs.Walk.{rounds_reported, reported, reported_of}
use Rattle.occ_usage.specs.Trees.{head_of, trees_of, under}
use Rattle.occ_usage.proofs.Sizes.{total}
use Rattle.occ_usage.proofs.walk.+walk.Given as goal

abbrev pub invariant-rounds-loop-i : goal.invariant-rounds-loop-i
invariant-rounds-loop-i l =
    (l.env ≡ l.initial.env)
    × ((parted l.sizes.items l.uses ≡ rounds_to l.i l.known.base l.initial.env (items_of (trees_of l.lines))) × (total l.sizes.items ≡ length l.uses))
    × (l.uses ≡ joined (rounds_to l.i l.known.base l.initial.env (items_of (trees_of l.lines))))
    × (l.told.parallel.keys ≡ rounds_reported l.i l.known.base l.initial.env (reported_of parallel_at (trees_of l.lines)))
    × (l.told.abbreviations.keys ≡ rounds_reported l.i l.known.base l.initial.env (reported_of abbreviation_at (trees_of l.lines)))

abbrev pub invariant-items-loop-one : goal.invariant-items-loop-one
invariant-items-loop-one l =
    (l.depth ≤ length l.env)
    × (take l.depth l.env ≡ l.initial.env)
    × (l.found.items ++ items (trees_of (drop l.one-index l.lines)) l.initial.env l.env l.own ≡ items_of (trees_of l.lines) l.initial.env)
    × (l.reported.parallel ++ reported parallel_at (trees_of (drop l.one-index l.lines)) l.initial.env l.env ≡ l.initial.reported.parallel ++ reported_of parallel_at (trees_of l.lines) l.initial.env)
    × (l.reported.abbreviations ++ reported abbreviation_at (trees_of (drop l.one-index l.lines)) l.initial.env l.env ≡ l.initial.reported.abbreviations ++ reported_of abbreviation_at (trees_of l.lines) l.initial.env)

abbrev pub invariant-gather_rounds-loop-index : goal.invariant-gather_rounds-loop-index
invariant-gather_rounds-loop-index l =
    (l.env ≡ l.initial.env)
    × (l.uses ≡ gathered (head_of l.line).place [] (joined (rounds_to l.index l.known.base l.initial.env (items_of (under l.line)))))
    × (l.told.parallel.keys ≡ rounds_reported l.index l.known.base l.initial.env (reported_of parallel_at (under l.line)))
    × (l.told.abbreviations.keys ≡ rounds_reported l.index l.known.base l.initial.env (reported_of abbreviation_at (under l.line)))

abbrev pub invariant-add_items-loop-one : goal.invariant-add_items-loop-one
invariant-add_items-loop-one l =
    (l.depth ≤ length l.env)
    × (take l.depth l.env ≡ l.initial.env)
    × (l.uses ++ joined (items (trees_of (drop l.one-index l.lines)) l.initial.env l.env []) ≡ l.initial.uses ++ joined (items_of (trees_of l.lines) l.initial.env))
    × (l.reported.parallel ++ reported parallel_at (trees_of (drop l.one-index l.lines)) l.initial.env l.env ≡ l.initial.reported.parallel ++ reported_of parallel_at (trees_of l.lines) l.initial.env)
    × (l.reported.abbreviations ++ reported abbreviation_at (trees_of (drop l.one-index l.lines)) l.initial.env l.env ≡ l.initial.reported.abbreviations ++ reported_of abbreviation_at (trees_of l.lines) l.initial.env)
