use Rattle.std.proofs.Common.{rules}
use Rattle.occ_scope.proofs.Alike.{without_both, without_last}
use Rattle.occ_scope.proofs.meanings.Meanings.pop.Goals as goal

pub invariant_of-self : goal.invariant_of-self
invariant_of-self c =
    without_both c.pop.result c.pop-then-len.result c.self.inside.meanings c.pop.new.self c.self.inside.alike c.pop-then-len.new.self c.pop.ensures c.pop-then-len.ensures c.self.invariant.within c.self.invariant.same

pub invariant_of-self-else-len : goal.invariant_of-self-else-len
invariant_of-self-else-len c = without_last c.pop.result c.self.inside.meanings c.pop.new.self c.self.inside.alike c.pop.ensures (search rules) c.self.invariant.same
