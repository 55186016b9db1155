use Rattle.std.proofs.Common.{subst, sym, rules}
use Rattle.occ_scope.proofs.Begun.{begins_more, front_within}
use Rattle.occ_scope.specs.inside.Begun.{Begins}
use Rattle.occ_scope.proofs.scopes.Scopes.enter.Goals as goal

pub invariant_of-self-2 : goal.invariant_of-self-2
invariant_of-self-2 c =
    let begins : Begins c.map_far.new.mapped c.self.inside.names = search rules in
    subst (Begins c.map_far.new.mapped) (sym c.in_ok-push.ensures.ok) (begins_more c.map_far.new.mapped c.self.inside.names c.new.result (front_within c.map_far.new.mapped c.self.inside.names begins) begins)
