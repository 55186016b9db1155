use Rattle.occ_scope.proofs.Taken.{as_before}
use Rattle.occ_scope.proofs.taking.Taking.are_of_one_type.Goals as goal

pub invariant_of-self : goal.invariant_of-self
invariant_of-self c =
    let h = as_before c.self.inside.meanings c.are_of_one_type.new.self c.self.inside.bound c.self.inside.taken.items c.are_of_one_type.ensures.meanings c.self.invariant.within c.self.invariant.noted in
    record { within = h.0; noted = h.1 }
