use Rattle.std.proofs.Common.{◌≡◌, length, take}
use Rattle.occ_scope.specs.Nearest.{nearest}
use Rattle.occ_scope.proofs.scopes.among_last.Given as goal

abbrev pub invariant-loop-rest : goal.invariant-loop-rest
invariant-loop-rest l =
    (nearest l.rest l.sought ≡ nearest l.names l.sought)
    × (take l.first l.rest ≡ take l.first l.names)

abbrev pub decreases-loop-rest : goal.decreases-loop-rest
decreases-loop-rest l = length l.rest
