use Rattle.std.proofs.Common.{ap, arith, not}
use Rattle.occ_check.proofs.Names.{one_more, other_there}
use Rattle.occ_check.proofs.job.are_units.Goals as goal
use Rattle.occ_check.specs.declared.used.UsedUnit.{UsedUnit}

pub returns-then-ne : goal.returns-then-ne
returns-then-ne c = (
  λ h. absurd cc,
  λ e. absurd (other_there (λ (u : UsedUnit). u.unit) c.args.used.now c.args.names.now c.loop-i.i c.index-used-i.result c.index-names-i.result c.ne.result (omega arith) c.index-names-i.is c.ne.ensures c.if-ne.true e),
)

pub loop-i-preserved : goal.loop-i-preserved
loop-i-preserved c = one_more (λ (u : UsedUnit). u.unit) c.args.used.now c.args.names.now c.loop-i.i c.index-used-i.result c.index-names-i.result c.ne.result (omega arith) (omega arith) c.index-names-i.is c.ne.ensures (ap not c.if-ne.false) c.loop-i.invariant
