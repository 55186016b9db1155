use Rattle.std.proofs.Common.{◌≡◌}
use Rattle.occ_scope.specs.Elements.{type_at}
use Rattle.occ_scope.proofs.meanings.Meanings.root_of.Given as goal

abbrev pub invariant-loop-next : goal.invariant-loop-next
invariant-loop-next l = type_at l.self-inside.meanings l.place ≡ type_at l.self-inside.meanings l.from

abbrev pub decreases-loop-next : goal.decreases-loop-next
decreases-loop-next l = l.place
