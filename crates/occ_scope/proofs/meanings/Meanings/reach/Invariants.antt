use Rattle.std.proofs.Common.{◌≡◌, ◌≤◌, ◌-◌, length}
use Rattle.occ_scope.specs.inside.Alike.{AreAlike}
use Rattle.occ_scope.proofs.meanings.Meanings.reach.Given as goal

abbrev pub invariant-loop-self : goal.invariant-loop-self
invariant-loop-self l = (l.self-inside.meanings ≡ l.initial.self-inside.meanings) × (length l.self-inside.alike ≤ length l.self-inside.meanings) × AreAlike l.self-inside.meanings l.self-inside.alike

abbrev pub decreases-loop-self : goal.decreases-loop-self
decreases-loop-self l = length l.self-inside.meanings - length l.self-inside.alike
