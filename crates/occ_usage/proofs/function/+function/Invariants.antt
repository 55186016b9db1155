use Rattle.std.proofs.Common.{◌≡◌, ◌≤◌, ◌++◌, drop, length, take}
use Rattle.occ_usage.specs.FunctionRule.{faults}
use Rattle.occ_usage.specs.Trees.{trees_of}
use Rattle.occ_usage.proofs.function.+function.Given as goal

abbrev pub invariant-lines-loop-one : goal.invariant-lines-loop-one
invariant-lines-loop-one l =
    (l.depth ≤ length l.env)
    × (take l.depth l.env ≡ l.initial.env)
    × (l.faults ++ faults l.within (trees_of (drop l.one-index l.lines)) l.initial.env l.env ≡ l.initial.faults ++ faults l.within (trees_of l.lines) l.initial.env l.initial.env)
