use Rattle.occ_project_graph.proofs.Replaced.{among_there}
use Rattle.occ_project_graph.proofs.numbering.numbers_then.Goals as goal

pub number_then-requires-clause-index : goal.number_then-requires-clause-index
number_then-requires-clause-index c = c.requires.within _ (among_there c.args.indices.now c.loop-index.index-index c.loop-index-test.true)
