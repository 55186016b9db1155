use Rattle.std.proofs.Common.{◌≡◌, ◌≤◌, ◌||◌, drop, length, take}
use Rattle.occ_usage.specs.Effect.{lines_effect}
use Rattle.occ_usage.specs.Trees.{trees_of}
use Rattle.occ_usage.proofs.effect.+effect.Given as goal

abbrev pub invariant-lines_effect-loop-line : goal.invariant-lines_effect-loop-line
invariant-lines_effect-loop-line l =
    (l.depth ≤ length l.env)
    × (take l.depth l.env ≡ l.initial.env)
    × ((l.found || lines_effect (trees_of (drop l.line-index l.lines)) l.initial.env l.env) ≡ lines_effect (trees_of l.lines) l.initial.env l.initial.env)
