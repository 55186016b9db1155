use Rattle.occ_scope.proofs.Taken.{as_before, with_one}
use Rattle.occ_scope.proofs.taking.Taking.push.Goals as goal

pub invariant_of-self : goal.invariant_of-self
invariant_of-self c =
    let h = as_before c.self.inside.meanings c.push.new.self c.self.inside.bound c.self.inside.taken.items c.in_err-push.ensures.err c.self.invariant.within c.self.invariant.noted in
    record { within = h.0; noted = h.1 }

pub invariant_of-self-2 : goal.invariant_of-self-2
invariant_of-self-2 c =
    let h = with_one c.self.inside.meanings c.push.new.self c.args.meaning c.self.inside.bound c.self.inside.taken.items c.in_ok-push.ensures.ok c.self.invariant.within c.self.invariant.noted in
    record { within = h.0; noted = h.1 }
