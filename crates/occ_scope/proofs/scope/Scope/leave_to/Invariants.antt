use Rattle.std.proofs.Common.{◌≡◌, length}
use Rattle.occ_scope.specs.Visible.{back_to}
use Rattle.occ_scope.proofs.scope.Scope.leave_to.Given as goal

abbrev pub invariant-loop-self : goal.invariant-loop-self
invariant-loop-self l = back_to l.count l.self ≡ back_to l.count l.initial.self

abbrev pub decreases-loop-self : goal.decreases-loop-self
decreases-loop-self l = length l.self.meanings
