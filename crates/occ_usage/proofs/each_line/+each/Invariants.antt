use Rattle.std.proofs.Common.{◌≡◌, ◌≤◌, ◌++◌, drop, length, take}
use Rattle.occ_usage.specs.EachLine.{lines_use, rounds_use}
use Rattle.occ_usage.specs.Trees.{trees_of}
use Rattle.occ_usage_values.specs.Bounds.{Env}
use Rattle.occ_usage.proofs.each_line.+each.Given as goal

abbrev pub invariant-add_rounds-loop-index : goal.invariant-add_rounds-loop-index
invariant-add_rounds-loop-index l = (l.env ≡ l.initial.env) × (l.uses ≡ l.initial.uses ++ rounds_use l.index l.known.base l.initial.env (λ (e : Env). lines_use (trees_of l.lines) e e))

abbrev pub invariant-add_lines-loop-one : goal.invariant-add_lines-loop-one
invariant-add_lines-loop-one l =
    (l.depth ≤ length l.env)
    × (take l.depth l.env ≡ l.initial.env)
    × (l.uses ++ lines_use (trees_of (drop l.one-index l.lines)) l.initial.env l.env ≡ l.initial.uses ++ lines_use (trees_of l.lines) l.initial.env l.initial.env)
