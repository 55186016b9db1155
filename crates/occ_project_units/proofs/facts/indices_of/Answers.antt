use Rattle.occ_project_units.proofs.Edges.{indices_next}
use Rattle.occ_project_units.proofs.facts.indices_of.Goals as goal

pub loop-i-preserved : goal.loop-i-preserved
loop-i-preserved c = indices_next c.args.project.now c.args.names.now c.loop-i.i c.index-names-i.result c.loop-i.indices c.add_index.new.indices c.loop-i-test.true c.index-names-i.is c.loop-i.invariant c.in_ok-add_index.ensures
