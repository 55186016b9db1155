use Rattle.std.proofs.Common.{arith, length, ◌≤◌, ◌-◌}
use Rattle.occ_scope.proofs.Taken.{without_last}
use Rattle.occ_scope.proofs.taking.Taking.pop.Goals as goal

pub invariant_of-self-else-self-len : goal.invariant_of-self-else-self-len
invariant_of-self-else-self-len c =
    let within : c.self.inside.bound ≤ length c.pop.new.self = omega (arith, c.len.ensures, c.if-self-len.false) in
    record {
      within = within;
      noted = without_last c.self.inside.meanings c.pop.new.self (length c.self.inside.meanings - 1) c.self.inside.bound c.self.inside.taken.items c.pop.ensures within c.self.invariant.noted;
    }
