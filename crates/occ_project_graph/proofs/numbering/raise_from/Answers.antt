use Rattle.std.proofs.Common.{arith}
use Rattle.occ_project_graph.proofs.Raising.{raising_fits, raising_more, raising_over, raising_within}
use Rattle.occ_project_graph.proofs.numbering.raise_from.Goals as goal

pub loop-place-init : goal.loop-place-init
loop-place-init c = c.raise_fours-place.ensures

pub raise-requires-clause-within : goal.raise-requires-clause-within
raise-requires-clause-within c = raising_within c.args.numbers.now c.args.indices.now c.loop-place.indices c.args.at c.loop-place.place c.requires c.loop-place.invariant c.loop-place-test.true

pub raise-requires-clause-fits : goal.raise-requires-clause-fits
raise-requires-clause-fits c = raising_fits c.args.numbers.now c.args.indices.now c.loop-place.indices c.args.at c.loop-place.place c.requires c.loop-place.invariant c.loop-place-test.true

pub loop-place-preserved : goal.loop-place-preserved
loop-place-preserved c = raising_more c.args.numbers.now c.args.indices.now c.loop-place.indices c.raise.new.indices c.args.at c.loop-place.place c.requires c.loop-place.invariant c.loop-place-test.true c.raise.ensures

pub returns : goal.returns
returns c = raising_over c.args.numbers.now c.args.indices.now c.loop-place.indices c.args.at c.loop-place.place c.requires c.loop-place.invariant (omega (arith, c.loop-place-test.false))
