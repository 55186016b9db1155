use Rattle.occ_project_graph.proofs.Led.{marked_next}
use Rattle.occ_project_graph.proofs.joining.marked_numbers.Goals as goal

pub loop-index-preserved : goal.loop-index-preserved
loop-index-preserved c =
    marked_next c.args.numbers.now c.args.marks.now c.loop-index.index c.loop-index.found c.add_if.new.numbers c.is_known.result c.loop-index-test.true c.loop-index.invariant c.is_known.ensures c.in_ok-add_if.ensures
