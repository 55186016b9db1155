use Rattle.std.proofs.Common.{◌≡◌, ◌≤◌, ◌++◌, drop, length, take}
use Rattle.occ_usage.specs.Lines.{after_lines}
use Rattle.occ_usage.specs.AbbreviationRule.{abbreviation_at}
use Rattle.occ_usage.specs.ParallelRule.{parallel_at}
use Rattle.occ_usage.specs.Walk.{reported, reported_of}
use Rattle.occ_usage.specs.Trees.{trees_of}
use Rattle.occ_usage.proofs.walk.go_through.Given as goal

abbrev pub invariant-loop-one : goal.invariant-loop-one
invariant-loop-one l =
    (l.depth ≤ length l.env)
    × (take l.depth l.env ≡ l.initial.env)
    × (after_lines (trees_of (drop l.one-index l.lines)) l.initial.env l.env ≡ after_lines (trees_of l.lines) l.initial.env l.initial.env)
    × (l.reported.parallel ++ reported parallel_at (trees_of (drop l.one-index l.lines)) l.initial.env l.env ≡ l.initial.reported.parallel ++ reported_of parallel_at (trees_of l.lines) l.initial.env)
    × (l.reported.abbreviations ++ reported abbreviation_at (trees_of (drop l.one-index l.lines)) l.initial.env l.env ≡ l.initial.reported.abbreviations ++ reported_of abbreviation_at (trees_of l.lines) l.initial.env)
