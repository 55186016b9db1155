use Rattle.std.proofs.Common.{ap, ◌∙◌, take, length, List, ℕ}
use Rattle.std.specs.Prelude.{◌-◌}
use Rattle.occ_scope.proofs.Stacked.{kept_less, is_held, front_of}
use Rattle.occ_scope.proofs.mapped.Mapped.leave.Goals as goal

pub restore-requires : goal.restore-requires
restore-requires c = is_held c.pop.new.self c.self.inside.entries c.self.inside.newest c.in-Some.last c.self.invariant.newest c.in-Some.ensures

pub invariant_of-self-2 : goal.invariant_of-self-2
invariant_of-self-2 c = kept_less c.pop.new.self c.self.inside.entries c.self.inside.newest c.restore.new.self c.in-Some.last c.self.invariant.chained c.self.invariant.newest c.in-Some.ensures c.restore.ensures

pub returns : goal.returns
returns c = front_of c.pop.new.self c.self.inside.entries c.in-Some.last c.in-Some.ensures ∙ ap (λ (ns : List (List ℕ)). take (length ns - 1) ns) c.self.view_is
