use Rattle.std.proofs.Common.{◌≡◌, ◌≤◌, ◌++◌, drop, length, take}
use Rattle.occ_usage.specs.Processes.{all_passed, process_uses}
use Rattle.occ_usage.specs.Trees.{trees_of}
use Rattle.occ_usage.proofs.process.+process.Given as goal

abbrev pub invariant-lines-loop-one : goal.invariant-lines-loop-one
invariant-lines-loop-one l =
    (l.depth ≤ length l.env)
    × (take l.depth l.env ≡ l.initial.env)
    × (l.found ++ process_uses l.left (trees_of (drop l.one-index l.lines)) l.initial.env l.env ≡ l.initial.found ++ process_uses l.initial.left (trees_of l.lines) l.initial.env l.initial.env)
    × (all_passed (trees_of (drop l.one-index l.lines)) l.left ≡ all_passed (trees_of l.lines) l.initial.left)
