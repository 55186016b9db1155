use Rattle.std.proofs.Common.{◌≡◌, drop}
use Rattle.occ_usage.specs.Naming.{lines_depend}
use Rattle.occ_usage.specs.Trees.{trees_of}
use Rattle.occ_usage.proofs.rounds.+depending.Given as goal

abbrev pub invariant-lines_depend-loop-line : goal.invariant-lines_depend-loop-line
invariant-lines_depend-loop-line l = lines_depend l.number (trees_of (drop l.line-index l.lines)) ≡ lines_depend l.number (trees_of l.lines)
