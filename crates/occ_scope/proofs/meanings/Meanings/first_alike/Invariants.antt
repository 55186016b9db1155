use Rattle.std.proofs.Common.{◌≡◌, ◌≤◌, length}
use Rattle.occ_scope.specs.Elements.{type_at}
use Rattle.occ_scope.specs.inside.Alike.{AreAlike}
use Rattle.occ_scope.proofs.meanings.Meanings.first_alike.Given as goal

abbrev pub invariant-loop-next : goal.invariant-loop-next
invariant-loop-next l =
    (l.self-inside.meanings ≡ l.initial.self-inside.meanings) × (length l.self-inside.alike ≤ length l.self-inside.meanings) × AreAlike l.self-inside.meanings l.self-inside.alike
    × (type_at l.initial.self-inside.meanings l.place ≡ type_at l.initial.self-inside.meanings l.from)

abbrev pub decreases-loop-next : goal.decreases-loop-next
decreases-loop-next l = l.place
