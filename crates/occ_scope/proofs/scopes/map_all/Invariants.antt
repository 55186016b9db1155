use Rattle.std.proofs.Common.{◌-◌, length}
use Rattle.occ_scope.specs.inside.Begun.{Begins}
use Rattle.occ_scope.proofs.scopes.map_all.Given as goal

abbrev pub invariant-loop-next : goal.invariant-loop-next
invariant-loop-next l = Begins l.mapped l.names

abbrev pub decreases-loop-next : goal.decreases-loop-next
decreases-loop-next l = length l.names - length l.mapped
