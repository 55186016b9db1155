use Rattle.std.proofs.Common.{ap, arith, not}
use Rattle.occ_check.proofs.Names.{one_more, other_there}
use Rattle.occ_check.proofs.job.are_names.Goals as goal
use Rattle.occ_project.specs.declared.reads.Read.{Read}

pub returns-then-ne : goal.returns-then-ne
returns-then-ne c = (
  λ h. absurd cc,
  λ e. absurd (other_there (λ (r : Read). r.name) c.args.reads.now c.args.names.now c.loop-i.i c.index-reads-i.result c.index-names-i.result c.ne.result (omega arith) c.index-names-i.is c.ne.ensures c.if-ne.true e),
)

pub loop-i-preserved : goal.loop-i-preserved
loop-i-preserved c = one_more (λ (r : Read). r.name) c.args.reads.now c.args.names.now c.loop-i.i c.index-reads-i.result c.index-names-i.result c.ne.result (omega arith) (omega arith) c.index-names-i.is c.ne.ensures (ap not c.if-ne.false) c.loop-i.invariant
